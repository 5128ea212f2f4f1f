use Rattle.cdi_report.proofs.Common.{sym, ap, ◌∙◌, false≢true, list_all, is_chainless, is_nameless, is_needless}
use Rattle.std.proofs.lemmas.Bool.{not-false}
use Rattle.cdi_report.proofs.SettledLemmas.{changed-found}
use Rattle.cdi_report.proofs.TogetherLemmas.{whole-chains, whole-circles, whole-names}
use Rattle.cdi_report.proofs.unsettled.Unsettled.together_by.Goals.{then-self, else-self, then-self-2, else-self-2+in_ok-circles}
use Rattle.cdi_report.proofs.unsettled.Unsettled.together_by.Goals as goal

pub are_nameless-requires : goal.are_nameless-requires
are_nameless-requires g c =
    changed-found (λ d. d.now) c.args.decls.now (g.V.View.list c.args.view.now) c.args.self.now c.requires.distinct c.requires.decls

pub are_needless-requires-clause-found : goal.are_needless-requires-clause-found
are_needless-requires-clause-found g c =
    changed-found (λ d. d.now) c.args.decls.now (g.V.View.list c.args.view.now) c.args.self.now c.requires.distinct c.requires.decls

pub returns-then-self-3 : goal.returns-then-self-3
returns-then-self-3 g c = record {
  names = λ none. elim c.if-self.branch [
    | then-self w ↦ absurd (false≢true (sym none ∙ w.names-is ∙ w.if-self.true))
    | else-self w ↦ whole-names (g.V.View.list c.args.view.now) c.args.self.now (c.requires.apart.names w.if-self.false)
        (ap (list_all (is_nameless (g.V.View.list c.args.view.now))) (sym c.requires.decls) ∙ sym w.are_nameless.ensures
        ∙ not-false _ (sym w.names-is ∙ none))
  ];
  circles = λ none. elim c.if-self-2.branch [
    | then-self-2 w ↦ absurd (false≢true (sym none ∙ w.circles-is ∙ w.if-self-2.true))
    | else-self-2+in_ok-circles w ↦
        let apart = c.requires.apart.circles w.if-self-2.false in (
          apart.0,
          whole-circles (g.V.View.list c.args.view.now) c.args.self.now c.requires.distinct apart.0 apart.1
              (ap (list_all (is_needless (g.V.View.list c.args.view.now))) (sym c.requires.decls) ∙ sym w.in_ok-circles.ensures
              ∙ not-false _ (sym w.circles-is ∙ none)),
        )
  ];
  chains = λ none. absurd (false≢true (sym none ∙ c.if-self-3.true));
}

pub returns-else-self-3 : goal.returns-else-self-3
returns-else-self-3 g c = record {
  names = λ none. elim c.if-self.branch [
    | then-self w ↦ absurd (false≢true (sym none ∙ w.names-is ∙ w.if-self.true))
    | else-self w ↦ whole-names (g.V.View.list c.args.view.now) c.args.self.now (c.requires.apart.names w.if-self.false)
        (ap (list_all (is_nameless (g.V.View.list c.args.view.now))) (sym c.requires.decls) ∙ sym w.are_nameless.ensures
        ∙ not-false _ (sym w.names-is ∙ none))
  ];
  circles = λ none. elim c.if-self-2.branch [
    | then-self-2 w ↦ absurd (false≢true (sym none ∙ w.circles-is ∙ w.if-self-2.true))
    | else-self-2+in_ok-circles w ↦
        let apart = c.requires.apart.circles w.if-self-2.false in (
          apart.0,
          whole-circles (g.V.View.list c.args.view.now) c.args.self.now c.requires.distinct apart.0 apart.1
              (ap (list_all (is_needless (g.V.View.list c.args.view.now))) (sym c.requires.decls) ∙ sym w.in_ok-circles.ensures
              ∙ not-false _ (sym w.circles-is ∙ none)),
        )
  ];
  chains = λ none. whole-chains (g.V.View.list c.args.view.now) c.args.self.now (c.requires.apart.chains c.if-self-3.false)
      (ap (list_all (is_chainless (g.V.View.list c.args.view.now))) (sym c.requires.decls) ∙ sym c.are_chainless.ensures
      ∙ not-false _ none);
}
