use Rattle.cdi_container.proofs.Common.{subst, sym, [], ◌∷◌, ap, ◌∙◌, Deployed, Answers, ChainKey, chain_of, State, left_by, trace_names}
use Rattle.cdi_container.proofs.Common.{RestsOnScene, List, ℕ}
use Rattle.cdi_container.proofs.Asking.{asked_left, chain_left, chain_told, failure, same_state}
use Rattle.cdi_container.proofs.Playing.{rests_asked}
use Rattle.cdi_container.proofs.container.Container.chain.Goals as goal

pub invariant_of-self : goal.invariant_of-self
invariant_of-self g c =
    rests_asked c.self.inside.deployment c.chain.new.self
    (ChainKey c.args.bean c.args.place.now ∷ []) c.self.inside.run.moment c.self.inside.told
    c.in-Ok.ensures.asked c.self.invariant (λ wired. c.self.invariant.told_now (sym c.chain.ensures.wired ∙ wired))

pub returns-in-Ok-clause-ok : goal.returns-in-Ok-clause-ok
returns-in-Ok-clause-ok g c =
    asked_left c.self.inside.deployment c.chain.new.self c.self.inside.told (trace_names c.chain.new.self c.self.inside.told)
    c.self.inside.run.moment c.args.self.now c.restart.new.self (ChainKey c.args.bean c.args.place.now ∷ []) c.self.view_is
    c.in-Ok.ensures.asked c.restart.ensures

pub returns-in-Ok-clause-step : goal.returns-in-Ok-clause-step
returns-in-Ok-clause-step g c =
    chain_told c.args.self.now c.restart.new.self c.args.bean c.args.place.now c.in-Ok.names
    (ap (λ (s : State). chain_of s.decls c.args.bean c.args.place.now) (sym c.self.view_is) ∙ c.in-Ok.ensures.chain)
    (returns-in-Ok-clause-ok g c)

pub invariant_of-self-in-Err : goal.invariant_of-self-in-Err
invariant_of-self-in-Err g c =
    subst (λ (d : Deployed). RestsOnScene d c.self.inside.run.moment c.self.inside.told) (sym c.in-Err.ensures.err) c.self.invariant

pub returns-in-Err-clause-err : goal.returns-in-Err-clause-err
returns-in-Err-clause-err g c =
    c.leave.ensures.left ∙ ap (left_by c.in-Err.error) (same_state c.self.inside.deployment c.chain.new.self c.self.inside.told
    c.self.inside.run.moment c.args.self.now c.self.view_is c.in-Err.ensures.err)
    ∙ ap (λ e. left_by e c.args.self.now) (sym c.leave.ensures.same)

pub returns-in-Err-clause-step : goal.returns-in-Err-clause-step
returns-in-Err-clause-step g c =
    chain_left c.args.self.now c.leave.new.self c.args.bean c.args.place.now c.leave.result
    (subst (λ e. Answers (failure (List (List ℕ)) e) (chain_of c.args.self.now.decls c.args.bean c.args.place.now))
    (sym c.leave.ensures.same)
    (subst (λ (s : State). Answers (failure (List (List ℕ)) c.in-Err.error) (chain_of s.decls c.args.bean c.args.place.now)) c.self.view_is
    c.in-Err.ensures.chain)) (returns-in-Err-clause-err g c)
