use Rattle.cdi_index.proofs.Common.{◌≡◌, ℕ, List, [], flat_map, option_map_or, Kept, Word, under, take}
use Rattle.cdi_index.proofs.under.only_slot.Given as goal

abbrev pub invariant-loop-word : goal.invariant-loop-word
invariant-loop-word l = (f : Word → ℕ → List Kept)
    → flat_map (λ w. flat_map (f w) (under l.postings w)) (take l.word-index l.words) ≡ option_map_or (λ o. f o.0 o.1) l.only []
