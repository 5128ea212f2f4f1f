use Rattle.cdi_ways.proofs.Common.{◌≡◌, ◌+◌, ◌<◌, ℕ, List, ◌∷◌, [], length, length-append, get_or, Some, ap, sym, ◌∙◌, arith}
use Rattle.cdi_ways.proofs.Common.{slice_get-get_or, slice_get_within, at-front, Edge, Has, ◌≢◌, Changes}
use Rattle.cdi_ways.specs.Circles.{all_left, searches_left}
use Rattle.cdi_ways.proofs.ReachLemmas.{AreFollowedTo, followed_next, reached_more, reached_next}
use Rattle.cdi_ways.proofs.states.States.reached.Goals as goal
use Rattle.cdi_ways.proofs.states.States.reached.Goals.{then-change+in_ok-push-2, else-change}

-- a position that is read is listed
abbrev listed : (positions : List ℕ) (index : ℕ) → index < length positions → Has positions (get_or positions index 0)
listed positions index within = (index, slice_get-get_or positions index 0 within)

pub end_of-next-requires : goal.end_of-next-requires
end_of-next-requires c =
    let positions = c.leaving_of-position-items in
    let leaves = (positions.ensures _).0 (listed positions.result.now c.loop-position.position-index c.loop-position-test.true) in
    slice_get_within c.args.ways.now _ leaves.0 leaves.1

pub loop-position-preserved : goal.loop-position-preserved
loop-position-preserved c =
    let positions = c.leaving_of-position-items in
    let index = c.loop-position.position-index in
    let leaves = (positions.ensures _).0 (listed positions.result.now index c.loop-position-test.true) in
    let e : Edge = leaves.0 in
    let end : c.end_of-next.result ≡ e.to = c.end_of-next.ensures e leaves.1 in
    let apart : c.args.from ≢ c.args.to = λ same. omega (arith, c.requires, ap searches_left same) in
    let kept = c.loop-position.invariant in
    let reached = c.loop-position.reached.items in
    let followed : AreFollowedTo c.args.ways.now positions.result.now c.args.from c.change.new.self (index + 1) =
    followed_next c.args.ways.now c.args.from c.args.to c.loop-position.self c.change.new.self positions.result.now index e c.change.result
    apart leaves.1 (rw end at c.change.ensures) kept.followed in
    elim c.if-change.branch [
      | then-change+in_ok-push-2 w ↦
          let changes : Changes e.to c.args.from c.args.to c.loop-position.self c.change.new.self = rw end at w.if-change.ensures in
          rw (w.reached-is, w.in_ok-push-2.ensures.items, end) (record {
            search = reached_more kept.search _ e (kept.here ∙ ap Some (sym leaves.2)) leaves.1 apart changes;
            here = at-front reached (e.to ∷ []) c.taken.place _ kept.here;
            followed = followed;
            left = omega (arith, kept.left, changes.left, c.requires, length-append reached (e.to ∷ []));
          })
      | else-change w ↦
          rw (w.reached-is) (record {
            search = rw (w.if-change.ensures.1) kept.search;
            here = kept.here;
            followed = followed;
            left = omega (arith, kept.left, ap all_left w.if-change.ensures.1);
          })
    ]

pub taken-preserved : goal.taken-preserved
taken-preserved c =
    let kept = c.loop-position.invariant in
    record {
      search = reached_next kept.search c.leaving_of-position-items.result.now c.index-node.result.now kept.here
          (λ p. (c.leaving_of-position-items.ensures p).1)
          (λ i lt. kept.followed i (omega (arith, lt, c.loop-position-test.false)));
      within = omega (arith, slice_get_within c.loop-position.reached.items c.taken.place c.index-node.result.now kept.here);
      left = kept.left;
    }
