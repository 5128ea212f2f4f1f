use Rattle.cdi_ways.proofs.Common.{◌∙◌, arith, common_steps, slice_get_cases}
use Rattle.std.proofs.lemmas.{Result.IfOk-weaker}
use Rattle.cdi_ways.proofs.CircleLemmas.{marks_decide, settles_begun}
use Rattle.cdi_ways.proofs.circles.on_circles.Goals as goal

pub loop-node-init : goal.loop-node-init
loop-node-init c =
    let each = c.in_ok-states.states.each.items in
    let same = c.in_ok-forth.ensures ∙ c.in_ok-to_vec.ensures.items_if_clones_equal (λ x y e. e) in
    record {
      next = tt;
      ends = tt;
      settled = settles_begun c.args.edges.now c.count-count.result c.in_ok-states.states
          (rw same at c.count-count.ensures) c.in_ok-states.ensures;
      left = λ n was. grind (arith, common_steps, c.in_ok-states.ensures, slice_get_cases each n);
    }

pub loop-node-2-preserved : goal.loop-node-2-preserved
loop-node-2-preserved c =
    let ensures = c.in_ok-settle-2.ensures in
    let same = c.in_ok-forth.ensures ∙ c.in_ok-to_vec.ensures.items_if_clones_equal (λ x y e. e) in
    record {
      settled = rw same at ensures.settled;
      left = λ n was. grind (arith, c.loop-node-2.invariant.left n (ensures.knows.fewer n was), ensures.knows.known);
    }

pub returns : goal.returns
returns c = IfOk-weaker c.marks.result _ _ (λ marks are node. marks_decide c.args.edges.now c.loop-node-2.states marks.items node are
    c.loop-node-2.invariant.settled (λ was. omega (arith, c.loop-node-2.invariant.left node was, c.loop-node-2-test.false))) c.marks.ensures
