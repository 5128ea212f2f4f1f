use Rattle.cdi_report.proofs.Common.{◌++◌, sym, ap, subst, ◌∙◌, same_key, key_of, ◌&&◌, list_any, unchanged_of, AreSettled, contains}
use Rattle.cdi_report.proofs.Common.{HaveNoneTogether, Together, Unsettled, open_of, EvaluatesSome, faults_of, has_faults, faults_together}
use Rattle.cdi_report.proofs.Common.{looks_at_all, flat_map, map, AreDistinct, AskForRest, told-all, faults_stand_once}
use Rattle.std.proofs.Common.{◌≢◌, AllPairs}
use Rattle.base_options.proofs.Results.{OnErr-from}
use Rattle.cdi_observe.specs.Lending.{IsEvaluated}
use Rattle.cdi_observe.proofs.KeptLemmas.{evaluates_all}
use Rattle.cdi_report.proofs.SettledLemmas.{all-knew, all-knows, rest-asked, settled-now, settled-still, some-still, tells-all, open-found}
use Rattle.cdi_report.proofs.unsettled.Unsettled.report.Goals as goal

pub among-requires : goal.among-requires
among-requires g c = subst AreDistinct (sym (c.in_ok-decls.ensures ∙ c.decls.ensures.value)) c.decls.ensures.distinct

pub evaluate_rest-requires-clause-among : goal.evaluate_rest-requires-clause-among
evaluate_rest-requires-clause-among g c =
    let u = c.args.self.now in
    open-found (λ d. d.now) c.as_slice.result.now (g.V.View.list c.args.view.now) u c.decls.ensures.distinct
    (ap (map (λ d. d.now)) c.as_slice.ensures.value ∙ c.in_ok-list.ensures
    ∙ ap (open_of u) (c.in_ok-decls.ensures ∙ c.decls.ensures.value))

pub evaluate_rest-requires-clause-rest : goal.evaluate_rest-requires-clause-rest
evaluate_rest-requires-clause-rest g c =
    let ds = g.V.View.list c.args.view.now in
    let u = c.args.self.now in
    let knows = (g.V.View.kept c.args.view.now).knows in
    subst (AskForRest ds knows)
    (sym (ap (map (λ d. d.now)) c.as_slice.ensures.value ∙ c.in_ok-list.ensures
    ∙ ap (open_of u) (c.in_ok-decls.ensures ∙ c.decls.ensures.value)))
    (rest-asked ds knows (g.B.Bodies.promises c.args.book.now) u c.requires.settled c.decls.ensures.distinct)

pub returns-in_err-evaluate_rest-clause-settled : goal.returns-in_err-evaluate_rest-clause-settled
returns-in_err-evaluate_rest-clause-settled g c =
    let ds = g.V.View.list c.args.view.now in
    let old = g.V.View.kept c.args.view.now in
    let new = g.V.View.kept c.evaluate_rest.new.view in
    let book = g.B.Bodies.promises c.args.book.now in
    subst (λ l. AreSettled l new.knows book c.args.self.now) (sym c.in_err-evaluate_rest.ensures.list)
    (settled-still ds old.knows new.knows book c.args.self.now (some-still ds old new c.requires.keeps c.in_err-evaluate_rest.ensures.err)
    c.requires.settled)

pub find-requires-clause-evaluated : goal.find-requires-clause-evaluated
find-requires-clause-evaluated g c =
    subst (λ l. IsEvaluated l (g.V.View.kept c.evaluate_rest.new.view)) (sym c.in_ok-evaluate_rest.ensures.list)
    c.in_ok-evaluate_rest.ensures.evaluated

pub find-requires-clause-distinct : goal.find-requires-clause-distinct
find-requires-clause-distinct g c = subst AreDistinct (sym c.in_ok-evaluate_rest.ensures.list) c.decls.ensures.distinct

pub find-requires-clause-decls : goal.find-requires-clause-decls
find-requires-clause-decls g c =
    ap (map (λ d. d.now)) c.as_slice-2.ensures.value ∙ c.in_ok-list.ensures
    ∙ ap (open_of c.args.self.now) (c.in_ok-decls.ensures ∙ c.decls.ensures.value ∙ sym c.in_ok-evaluate_rest.ensures.list)

pub find-requires-clause-apart : goal.find-requires-clause-apart
find-requires-clause-apart g c =
    let u = c.args.self.now in
    subst (λ l. HaveNoneTogether l (unchanged_of u l) u.anew) (sym c.in_ok-evaluate_rest.ensures.list) c.requires.settled.apart

pub returns-in_err-found-clause-err : goal.returns-in_err-found-clause-err
returns-in_err-found-clause-err g c =
    let ds = g.V.View.list c.args.view.now in
    let old = g.V.View.kept c.args.view.now in
    OnErr-from c.from_residual-in_err-found.result
    (subst (EvaluatesSome ds old) (sym c.in_ok-evaluate_rest.ensures.ok) (evaluates_all ds old))

pub returns-in_err-found-clause-settled : goal.returns-in_err-found-clause-settled
returns-in_err-found-clause-settled g c =
    let ds = g.V.View.list c.args.view.now in
    let old = g.V.View.kept c.args.view.now in
    let new = g.V.View.kept c.evaluate_rest.new.view in
    let book = g.B.Bodies.promises c.args.book.now in
    subst (λ l. AreSettled l new.knows book c.args.self.now) (sym c.in_ok-evaluate_rest.ensures.list)
    (settled-still ds old.knows new.knows book c.args.self.now (all-knew ds old new c.requires.keeps c.in_ok-evaluate_rest.ensures.ok)
    c.requires.settled)

told : goal.returns-clause-faults
told g c =
    let ds = g.V.View.list c.args.view.now in
    let u = c.args.self.now in
    let book = g.B.Bodies.promises c.args.book.now in
    c.in_ok-found.ensures.faults
    ∙ ap (λ l. flat_map (faults_of l book) (open_of u l) ++ faults_together l looks_at_all) c.in_ok-evaluate_rest.ensures.list
    ∙ told-all ds (open_of u ds) book
    (tells-all ds (g.V.View.kept c.args.view.now).knows book u c.requires.settled c.decls.ensures.distinct)

pub returns-clause-faults : goal.returns-clause-faults
returns-clause-faults = told

pub returns-clause-once : goal.returns-clause-once
returns-clause-once g c =
    subst (AllPairs (λ f g. f ≢ g)) (sym (told g c))
    (faults_stand_once (g.V.View.list c.args.view.now) (g.B.Bodies.promises c.args.book.now) c.decls.ensures.distinct)

pub returns-clause-settled : goal.returns-clause-settled
returns-clause-settled g c =
    let ds = g.V.View.list c.args.view.now in
    let old = g.V.View.kept c.args.view.now in
    let new = g.V.View.kept c.evaluate_rest.new.view in
    let book = g.B.Bodies.promises c.args.book.now in
    let made : Unsettled = c.settle.new.self in
    let after = g.V.View.list c.evaluate_rest.new.view in
    subst (λ l. AreSettled l new.knows book made) (sym c.in_ok-evaluate_rest.ensures.list)
    (settled-now ds old.knows book c.args.self.now c.requires.settled new.knows made
    (all-knows ds old new c.requires.keeps c.in_ok-evaluate_rest.ensures.ok) c.settle.ensures.changed
    (λ k. ap (λ s. contains same_key s k) c.settle.ensures.faulty ∙ c.in_ok-found.ensures.keys k
    ∙ ap (λ l. list_any (λ d. same_key (key_of d) k && has_faults l book d) (open_of c.args.self.now l))
    c.in_ok-evaluate_rest.ensures.list)
    (subst (λ l. HaveNoneTogether l l made.anew) c.in_ok-evaluate_rest.ensures.list
    (subst (λ (a : Together). HaveNoneTogether after after a) (sym c.settle.ensures.anew) c.in_ok-found.ensures.together)))
