use Rattle.cdi_validate.proofs.Common.{sym, ap, ◌∙◌, beans, faults, name_prefixes, subst, LinesRise, subjects_in_order, IfOk-weaker}
use Rattle.std.specs.Result.{OnOk}
use Rattle.base_options.proofs.Results.{OnOk-from, OnErr-from}
use Rattle.cdi_observe.specs.{Kept.EvaluatesSome, Lending.IsEvaluated}
use Rattle.cdi_observe.proofs.KeptLemmas.{evaluates_all}
use Rattle.cdi_validate.proofs.{BehindLemmas.prefixes_go_on, TwiceLemmas.sharers_are_told}
use Rattle.cdi_validate.proofs.deployment.faults.Goals as goal

pub find-requires : goal.find-requires
find-requires g c =
    subst (λ ds. IsEvaluated ds (g.V.View.kept c.evaluate.new.view)) (sym c.in_ok-evaluate.ensures.list) c.in_ok-evaluate.ensures.evaluated

pub returns-clause-faults : goal.returns-clause-faults
returns-clause-faults g c =
    IfOk-weaker c.find.result _ _
    (λ list are. are ∙ ap (λ ds. faults ds (g.B.Bodies.promises c.args.book.now)) c.in_ok-evaluate.ensures.list)
    c.find.ensures.faults

pub returns-clause-ok : goal.returns-clause-ok
returns-clause-ok g c = OnOk-from c.find.result c.in_ok-evaluate.ensures.ok

pub returns-clause-err : goal.returns-clause-err
returns-clause-err g c =
    let ds = g.V.View.list c.args.view.now in
    let old = g.V.View.kept c.args.view.now in
    OnErr-from c.find.result (subst (EvaluatesSome ds old) (sym c.in_ok-evaluate.ensures.ok) (evaluates_all ds old))

pub returns-clause-prefixes : goal.returns-clause-prefixes
returns-clause-prefixes g c =
    subst (λ ds. OnOk c.find.result (LinesRise (name_prefixes (beans ds)))) c.in_ok-evaluate.ensures.list c.find.ensures.prefixes

pub returns-in_err-evaluate-clause-order : goal.returns-in_err-evaluate-clause-order
returns-in_err-evaluate-clause-order g c = subjects_in_order

pub returns-clause-order : goal.returns-clause-order
returns-clause-order g c = subjects_in_order

pub returns-in_err-evaluate-clause-longer : goal.returns-in_err-evaluate-clause-longer
returns-in_err-evaluate-clause-longer g c = prefixes_go_on

pub returns-clause-longer : goal.returns-clause-longer
returns-clause-longer g c = prefixes_go_on

pub returns-in_err-evaluate-clause-sharers : goal.returns-in_err-evaluate-clause-sharers
returns-in_err-evaluate-clause-sharers g c = sharers_are_told

pub returns-clause-sharers : goal.returns-clause-sharers
returns-clause-sharers g c = sharers_are_told
