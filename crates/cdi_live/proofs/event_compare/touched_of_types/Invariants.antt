use Rattle.cdi_live.proofs.Common.{◌≡◌, List, Qual, ℕ, IfSome, is_touched_of, is_gone, take}
use Rattle.cdi_live.specs.EventCompared.{IsRightBetween}
use Rattle.cdi_live.proofs.event_compare.touched_of_types.Given as goal

abbrev pub invariant-loop-event_type : goal.invariant-loop-event_type
invariant-loop-event_type l = record {
  gone : (t : List ℕ) (us : List Qual) → is_gone l.gone.items t us
      ≡ is_touched_of l.sides.index.now.decls l.sides.next.now l.events (take l.event_type-index l.types) t us;
  last : IfSome l.last (IsRightBetween l.sides.index.now.decls l.sides.next.now);
}
