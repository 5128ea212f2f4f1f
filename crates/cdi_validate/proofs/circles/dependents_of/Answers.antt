use Rattle.cdi_validate.proofs.Common.{all-append, ◌≡◌, ◌++◌, sym, ap, ◌∙◌, append_assoc, flat_map, true, [], ◌∷◌, is_name, subst}
use Rattle.cdi_validate.proofs.Common.{dependents_by_text, append-nil, name_of_decl, entries, AreNamed, fold-append, with_dependent}
use Rattle.cdi_validate.specs.Needed.{AreNumbered}
use Rattle.cdi_validate.proofs.FoundLemmas.{all-gone, found-next, records-next}
use Rattle.cdi_validate.proofs.circles.dependents_of.Goals as goal

pub records_of_decl-requires : goal.records_of_decl-requires
records_of_decl-requires g c =
    let ds = g.V.View.list c.args.view.now in
    let gone = c.loop-decl.invariant in
    found-next ds gone.0 c.next.new.self c.in-Some.decl.now c.decls.ensures.distinct
    (ap (λ left. gone.0 ++ left) (sym c.in-Some.ensures.steps) ∙ gone.1)

pub loop-decl-preserved : goal.loop-decl-preserved
loop-decl-preserved g c =
    let ds = g.V.View.list c.args.view.now in
    let gone = c.loop-decl.invariant in
    let es = gone.0 in
    let d = c.in-Some.decl.now in
    let rest = c.next.new.self in
    let split : es ++ d ∷ rest ≡ ds = ap (λ left. es ++ left) (sym c.in-Some.ensures.steps) ∙ gone.1 in
    let before = flat_map (entries ds) es in
    let own = c.records_of_decl.result.now in (
      es ++ d ∷ [],
      append_assoc es (d ∷ []) rest ∙ split,
      subst (λ entries. AreNumbered entries c.add_dependents.new.dependents)
          (sym (fold-append with_dependent [] before own)
          ∙ ap dependents_by_text (ap (λ records. before ++ records) c.records_of_decl.ensures ∙ records-next ds es d))
          (c.in_ok-add_dependents.ensures (dependents_by_text before) gone.2),
      all-append (λ e. is_name (name_of_decl e) ≡ true) es (d ∷ []) gone.3
          (subst (λ name. is_name name ≡ true) c.name.ensures c.as_bytes.ensures.grammar, tt),
    )

pub returns-clause-value : goal.returns-clause-value
returns-clause-value g c =
    let gone = c.loop-decl.invariant in
    subst (λ bs. AreNumbered (dependents_by_text bs) c.loop-decl.dependents)
    (all-gone (g.V.View.list c.args.view.now) gone.0 c.loop-decl.decl-iterator c.in-None.ensures.steps.0 gone.1) gone.2

pub returns-clause-named : goal.returns-clause-named
returns-clause-named g c =
    let gone = c.loop-decl.invariant in
    subst AreNamed (sym (append-nil gone.0) ∙ ap (λ left. gone.0 ++ left) (sym c.in-None.ensures.steps.0) ∙ gone.1) gone.3
