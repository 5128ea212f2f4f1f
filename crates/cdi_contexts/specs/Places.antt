-- Where an instance stands among the live ones.
use Rattle.std.specs.Prelude.{◌≡◌, ◌≢◌, ℕ, ◌<◌, nat_lt, List, length, filter, Option, Some, None}
use Rattle.std.specs.List.{All, HoldsAt}
use Rattle.cdi_contexts.specs.declared.instance.Instance.{Instance}

-- the instance with number n stands at place k; at none where none of them has the number
abbrev pub IsPlace : List Instance → ℕ → Option ℕ → Type 0
IsPlace live n (Some k) = (k < length live) × HoldsAt (λ i. i.id.number ≡ n) live k
IsPlace live n None = All (λ i. i.id.number ≢ n) live

-- the instances that are younger than this number
abbrev pub younger_than : ℕ → List Instance → List Instance
younger_than n live = filter (λ i. nat_lt n i.id.number) live
