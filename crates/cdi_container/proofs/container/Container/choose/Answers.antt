use Rattle.cdi_container.proofs.Common.{refl, subst, sym, beans, chosen, [], ◌∷◌, ap, ◌∙◌, choice_key, Deployed, State, trace_names, Chosen}
use Rattle.cdi_container.proofs.Common.{RestsOnScene, OnErr-from}
use Rattle.cdi_container.proofs.{Asking.asked_left, Asking.same_state, Asking.choose_unserved, Playing.rests_asked}
use Rattle.cdi_container.proofs.container.Container.choose.Goals as goal

pub invariant_of-self : goal.invariant_of-self
invariant_of-self g c =
    subst (λ (d : Deployed). RestsOnScene d c.self.inside.run.moment c.self.inside.told) (sym c.in_err-choice.ensures.err) c.self.invariant

pub returns-in_err-choice-clause-err : goal.returns-in_err-choice-clause-err
returns-in_err-choice-clause-err g c =
    OnErr-from c.from_residual.result (same_state c.self.inside.deployment c.choose.new.self c.self.inside.told c.self.inside.run.moment
    c.args.self.now c.self.view_is c.in_err-choice.ensures.err)

pub returns-in_err-choice-clause-step : goal.returns-in_err-choice-clause-step
returns-in_err-choice-clause-step g c =
    choose_unserved c.args.self.now _ c.args.bean_type c.args.quals.now c.from_residual.result c.from_residual.ensures.0
    (same_state c.self.inside.deployment c.choose.new.self c.self.inside.told c.self.inside.run.moment
    c.args.self.now c.self.view_is c.in_err-choice.ensures.err)

pub invariant_of-self-2 : goal.invariant_of-self-2
invariant_of-self-2 g c =
    rests_asked c.self.inside.deployment c.choose.new.self
    (choice_key c.args.bean_type c.args.quals.now ∷ []) c.self.inside.run.moment c.self.inside.told
    c.in_ok-choice.ensures.asked c.self.invariant (λ wired. c.self.invariant.told_now (sym c.choose.ensures.wired ∙ wired))

pub returns-clause-ok : goal.returns-clause-ok
returns-clause-ok g c =
    asked_left c.self.inside.deployment c.choose.new.self c.self.inside.told (trace_names c.choose.new.self c.self.inside.told)
    c.self.inside.run.moment c.args.self.now c.restart.new.self
    (choice_key c.args.bean_type c.args.quals.now ∷ []) c.self.view_is c.in_ok-choice.ensures.asked c.restart.ensures

pub returns-clause-step : goal.returns-clause-step
returns-clause-step g c = (
  refl,
  (
    ap Chosen (c.in_ok-choice.ensures.choice
        ∙ ap (λ (s : State). chosen s.decls (beans s.decls) c.args.bean_type c.args.quals.now) c.self.view_is),
    returns-clause-ok g c,
  ),
)
