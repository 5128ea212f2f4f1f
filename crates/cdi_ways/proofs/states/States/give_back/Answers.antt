use Rattle.cdi_ways.proofs.Common.{arith, slice_get_within, subst, Some, get_or, ◌≢◌, below_more, get_or_from_slice_get, Unknown, Ahead}
use Rattle.cdi_ways.proofs.Common.{state_of}
use Rattle.cdi_ways.proofs.ReachLemmas.{change_tells}
use Rattle.cdi_ways.proofs.states.States.give_back.Goals as goal

pub loop-node-preserved : goal.loop-node-preserved
loop-node-preserved c =
    let apart : Ahead ≢ Unknown = λ e. absurd (cc) in
    let old = c.loop-node.self in
    let new = c.change.new.self in
    let tells = change_tells _ Ahead Unknown old new c.change.result apart c.change.ensures in
    record {
      kept = λ n. grind (arith, tells.0 n, c.loop-node.invariant.kept n);
      none = below_more _ _ (λ i lt. (
          let other = c.loop-node.invariant.none i lt in
          grind (arith, tells.0 (get_or c.args.nodes.now i 0)))) tells.1;
    }

pub returns : goal.returns
returns c = record {
  kept = c.loop-node.invariant.kept;
  none = λ n has. subst (λ m. state_of c.loop-node.self m ≢ Some Ahead) (get_or_from_slice_get c.args.nodes.now has.0 n 0 has.1)
      (c.loop-node.invariant.none has.0 (omega (arith, c.loop-node-test.false, slice_get_within c.args.nodes.now has.0 n has.1)));
}
