use Rattle.std.proofs.Common.{◌≡◌, ◌-◌, ◌+◌, Some, None, arith, slice_get}
use Rattle.cdi_legal.specs.Ends.{Ends}
use Rattle.cdi_ending.proofs.stage.Stage.destroy_held.Goals as goal

pub loop-left-preserved-in-Continue-1 : goal.loop-left-preserved-in-Continue-1
loop-left-preserved-in-Continue-1 g c =
    let j = c.loop-left.left - 1 in
    let before : c.loop-left.left ≡ j + 1 = omega arith in
    let here : slice_get c.args.made.now j ≡ Some (Some c.in-Some.id) = rw c.in-Some.is at c.made_at.ensures in
    record {
      few = omega (arith, c.loop-left.invariant.few);
      rest = λ m e. c.loop-left.invariant.rest m (Ends.instance_held _ j _ _ _ _ _ before here c.in_ok-destroy.ensures.legal e);
    }

pub loop-left-preserved : goal.loop-left-preserved
loop-left-preserved g c =
    let j = c.loop-left.left - 1 in
    let before : c.loop-left.left ≡ j + 1 = omega arith in
    let none : c.made_at.result ≡ None = grind arith in
    let here : slice_get c.args.made.now j ≡ Some None = rw none at c.made_at.ensures in
    record {
      few = omega (arith, c.loop-left.invariant.few);
      rest = λ m e. c.loop-left.invariant.rest m (Ends.proxy_held _ j _ _ _ before here e);
    }

pub returns : goal.returns
returns g c =
    let none : c.loop-left.left ≡ 0 = omega arith in
    record { legal = c.loop-left.invariant.rest _ (rw none (Ends.none_held _ _)) }
