use Rattle.cdi_container.proofs.Common.{refl, subst, sym, length, ap, ◌∙◌, kept_in, EvaluatesSome, faults, OnErr-from}
use Rattle.cdi_observe.specs.Lending.{IsEvaluated}
use Rattle.cdi_observe.proofs.{KeptLemmas.evaluates_all, LendingLemmas.evaluated-all}
use Rattle.cdi_container.proofs.found.find_wiring.Goals as goal

pub report-requires-clause-keeps : goal.report-requires-clause-keeps
report-requires-clause-keeps g c = refl

pub of-requires-clause-count : goal.of-requires-clause-count
of-requires-clause-count g c =
    ap length (c.as_slice.ensures.value ∙ c.in_ok-found.ensures.faults
    ∙ ap (λ ds. faults ds (g.B.Bodies.promises c.args.book.now)) (sym c.in_ok-found.ensures.list))

pub of-requires-clause-evaluated : goal.of-requires-clause-evaluated
of-requires-clause-evaluated g c =
    let old = c.args.live.now in
    subst (λ ds. IsEvaluated ds (kept_in c.report.new.view)) (sym c.in_ok-found.ensures.list)
    (evaluated-all old.decls (kept_in old) (kept_in c.report.new.view) c.in_ok-found.ensures.ok)

pub returns-clause-err : goal.returns-clause-err
returns-clause-err g c =
    let old = c.args.live.now in
    OnErr-from c.of.result (subst (EvaluatesSome old.decls (kept_in old)) (sym c.in_ok-found.ensures.ok)
    (evaluates_all old.decls (kept_in old)))
