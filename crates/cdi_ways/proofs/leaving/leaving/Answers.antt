use Rattle.cdi_ways.proofs.Common.{refl, arith, slice_get-get_or, slice_get_within, leaving_at, Leaves}
use Rattle.cdi_ways.proofs.LeavingLemmas.{put_right, put_whole}
use Rattle.cdi_ways.proofs.leaving.leaving.Goals as goal

pub loop-position-preserved : goal.loop-position-preserved
loop-position-preserved c =
    let edges = c.args.edges.now in
    let position = c.loop-position.position in
    let leaves : Leaves edges _ position = (_, slice_get-get_or edges position _ c.loop-position-test.true, refl) in (
      put_right edges (leaving_at c.loop-position.leaving.items) (leaving_at c.add.new.leaving.items) _ position c.in_ok-add.ensures leaves
          c.loop-position.invariant.0,
      put_whole edges (leaving_at c.loop-position.leaving.items) (leaving_at c.add.new.leaving.items) _ position c.in_ok-add.ensures leaves
          c.loop-position.invariant.1,
    )

pub returns : goal.returns
returns c = record {
  right = c.loop-position.invariant.0;
  whole = λ node p leaves. c.loop-position.invariant.1 node p
      (omega (arith, c.loop-position-test.false, slice_get_within c.args.edges.now p leaves.0 leaves.1)) leaves;
}
