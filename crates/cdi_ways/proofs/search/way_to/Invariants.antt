use Rattle.cdi_ways.proofs.Common.{◌≡◌, ◌+◌, ◌<◌, ℕ, List, reverse, length, Some, IfSome, option_map, unwrap_or, Edge, depth_at, IsLed}
use Rattle.cdi_ways.proofs.Common.{LeadsTo, IsWay}
use Rattle.cdi_ways.proofs.search.way_to.Given as goal

abbrev pub invariant-back : goal.invariant-back
invariant-back l = record {
  within : IfSome l.next (λ i. i < length l.steps);
  way : (edges : List Edge) (start a b : ℕ) → IsLed edges start l.steps → LeadsTo edges start l.steps l.next a
      → LeadsTo edges start l.steps (Some l.place) b → IsWay edges a b (reverse l.way.items);
  count : length l.way.items + depth_at l.steps l.next ≡ depth_at l.steps (Some l.place);
}

abbrev pub decreases-back : goal.decreases-back
decreases-back l = unwrap_or (option_map (λ i. i + 1) l.next) 0
