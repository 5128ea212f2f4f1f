use Rattle.cdi_effective.proofs.Common.{◌≡◌, ◌+◌, true, false, refl, sym, ap, ◌∙◌, suc, arith, limit, replicate, set, ◌-◌, rules}
use Rattle.cdi_effective.proofs.PlaceLemmas.{found-place}
use Rattle.cdi_effective.proofs.StepLemmas.{none-behind}
use Rattle.cdi_effective.proofs.WalkLemmas.{known-there, next-within, none-places, walk-begins, walk-ends-met, walk-ends-none, walk-goes-on}
use Rattle.cdi_effective.proofs.WalkLemmas.{walk-over}
use Rattle.cdi_effective.proofs.chains.Chains.places_behind.Goals as goal

pub returns-then-not-bean : goal.returns-then-not-bean
returns-then-not-bean c =
    none-places c.args.self.now.decls.now _ _ c.new-places.ensures.items
    (none-behind c.args.self.now.decls.now c.args.bean.now c.if-not-bean.true)

pub loop-step-init : goal.loop-step-init
loop-step-init c =
    let ds = c.args.self.now.decls.now in
    let b = c.args.bean.now in
    walk-begins ds b _ _ c.in-Some.first
    (found-place ds b c.in-Some.first c.requires (sym c.position.ensures.value ∙ c.in-Some.is))
    c.new-places.ensures.items
    (ap (λ l. set l c.in-Some.first true) (c.in_ok-met.ensures.items_if_clones_equal (λ y same. search rules)
    ∙ ap (λ n. replicate n false) c.len.ensures.value))

pub returns-in_default-next : goal.returns-in_default-next
returns-in_default-next c =
    walk-ends-none c.args.self.now.decls.now c.args.bean.now c.loop-step.places.items c.loop-step.met.items c.loop-step.last
    (limit - c.loop-step.step) c.loop-step.invariant (sym c.in_default-next.ensures)

pub returns-then-index : goal.returns-then-index
returns-then-index c =
    walk-ends-met c.args.self.now.decls.now c.args.bean.now c.loop-step.places.items c.loop-step.met.items c.loop-step.last
    (limit - c.loop-step.step) c.in-Some-next.next c.loop-step.invariant (sym c.in-Some-next.ensures)
    (known-there c.loop-step.met.items c.in-Some-next.next c.index.result.now
    (next-within c.args.self.now.decls.now c.args.bean.now c.loop-step.places.items c.loop-step.met.items c.loop-step.last
    (limit - c.loop-step.step) c.in-Some-next.next c.loop-step.invariant (sym c.in-Some-next.ensures))
    (sym c.index.ensures ∙ c.if-index.true))

pub loop-step-preserved : goal.loop-step-preserved
loop-step-preserved c =
    let step = c.loop-step.step in
    let less : limit - step ≡ suc (limit - (step + 1)) = omega arith in
    walk-goes-on c.args.self.now.decls.now c.args.bean.now c.loop-step.places.items _ c.loop-step.met.items _ c.loop-step.last
    (limit - step) (limit - (step + 1)) c.in-Some-next.next c.loop-step.invariant (sym c.in-Some-next.ensures)
    (search rules) less c.in_ok-push.ensures.items refl

pub returns : goal.returns
returns c =
    let none : limit - c.loop-step.step ≡ 0 = omega arith in
    walk-over c.args.self.now.decls.now c.args.bean.now c.loop-step.places.items c.loop-step.met.items c.loop-step.last
    (limit - c.loop-step.step) c.loop-step.invariant none
