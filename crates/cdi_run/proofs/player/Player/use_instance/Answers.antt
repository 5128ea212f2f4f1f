use Rattle.std.proofs.Common.{rules, ◌≡◌, [], None, IsSome, arith, ap, refl}
use Rattle.std.proofs.lemmas.Grind.{common_steps}
use Rattle.cdi_model.specs.declared.outcome.{Outcome.TheVariants.Value, Val.Val}
use Rattle.cdi_contexts.specs.declared.instance.Actor.TheVariants.{Target}
use Rattle.cdi_scene.specs.{Scene.product_at, declared.place.Place.TheVariants.Method}
use Rattle.cdi_legal.specs.{Ends.seat_on, Furnished.IsServed, LegalRun.Uses}
use Rattle.cdi_run.proofs.Staying.{served_alone}
use Rattle.cdi_run.proofs.player.Player.use_instance.Goals as goal

pub returns-in-State : goal.returns-in-State
returns-in-State g c = rw c.in-State.is (Uses.looked _ _ (ap (λ (v : Val). Value v) c.load.ensures))

pub returns-then-is_some : goal.returns-then-is_some
returns-then-is_some g c =
    let some : IsSome (product_at c.args.self.now.stage.scene c.args.id.bean) = grind (arith, common_steps) in
    rw c.in-Answer.is (Uses.called_product _ _ _ _ some (ap (λ (v : Val). Value v) c.load-then-is_some.ensures))

pub invoke-requires : goal.invoke-requires
invoke-requires g c =
    let none : product_at c.args.self.now.stage.scene c.args.id.bean ≡ None = grind (arith, common_steps) in
    let there = (rw c.in-Answer.is at c.requires.usable) none in
    let served : IsServed c.args.self.now.stage.scene c.args.run.now.moment.standing.live
    (seat_on c.args.id Target (Method c.in-Answer.method)) [] =
    served_alone c.args.self.now.stage.scene c.args.run.now.moment.standing.live c.args.id (Method c.in-Answer.method)
    c.requires.has refl in
    search rules

pub returns-in_ok-given-in-Answer : goal.returns-in_ok-given-in-Answer
returns-in_ok-given-in-Answer g c =
    let none : product_at c.args.self.now.stage.scene c.args.id.bean ≡ None = grind (arith, common_steps) in
    let e : c.in_ok-position_at-in-Answer.field-0 ≡ c.in-Answer.method = c.in_ok-position_at-in-Answer.ensures.value in
    rw (c.in-Answer.is, ← e) (Uses.called _ _ _ _ _ _ none c.in_ok-given-in-Answer.ensures)
