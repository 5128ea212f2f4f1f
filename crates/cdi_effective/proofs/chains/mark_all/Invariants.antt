use Rattle.cdi_effective.proofs.Common.{◌≡◌, ◌<◌, ℕ, false, ◌||◌, length, get_or, AllByRecursion, list_any, nat_eq}
use Rattle.cdi_effective.proofs.chains.mark_all.Given as goal

abbrev pub invariant-loop-place : goal.invariant-loop-place
invariant-loop-place l = record {
  sized : length l.marks.items ≡ length l.fn.marks.items;
  within : AllByRecursion (λ place. place < length l.fn.marks.items) l.place-iterator.rest.items;
  marked : (place : ℕ) → (get_or l.marks.items place false || list_any (nat_eq place) l.place-iterator.rest.items)
      ≡ (get_or l.fn.marks.items place false || list_any (nat_eq place) l.fn.places.items);
}
