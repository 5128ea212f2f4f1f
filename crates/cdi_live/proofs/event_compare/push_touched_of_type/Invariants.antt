use Rattle.cdi_live.proofs.Common.{◌≡◌, ◌&&◌, List, length, bytes_eq, Qual, ℕ, ◌||◌, parts_under, is_gone, take, ◌-◌, is_touched_among}
use Rattle.cdi_live.proofs.event_compare.push_touched_of_type.Given as goal

abbrev pub invariant-parts : goal.invariant-parts
invariant-parts l = (t : List ℕ) (us : List Qual) → is_gone l.gone.items t us ≡ (is_gone l.fn.gone.items t us
    || (bytes_eq t l.event_type && is_touched_among l.sides.index.now.decls l.sides.next.now l.event_type us
    (take l.index (parts_under l.events l.event_type))))

abbrev pub decreases-parts : goal.decreases-parts
decreases-parts l = length (parts_under l.events l.event_type) - l.index
