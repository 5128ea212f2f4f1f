-- Numbers rise along the live instances, none is above those that were given, and each owner's is below that of its dependents.
use Rattle.std.specs.Prelude.{ℕ, ◌<◌, ◌≤◌, List, [], ◌∷◌}
use Rattle.cdi_contexts.specs.declared.instance.Instance.{Instance}
use Rattle.cdi_contexts.specs.declared.instance.Owner.{Owner}
use Rattle.cdi_contexts.specs.declared.instance.Owner.TheVariants.{Request, Application, Point, Nobody}

-- the owner is older than this number
abbrev pub IsOwnerOf : ℕ → Owner → Type 0
IsOwnerOf n (Point m actor point) = m < n
IsOwnerOf n Request = Unit {0}
IsOwnerOf n Application = Unit {0}
IsOwnerOf n Nobody = Unit {0}

-- they rise strictly from above low up to the given
abbrev pub RisesFrom : ℕ → ℕ → List Instance → Type 0
RisesFrom low given [] = low ≤ given
RisesFrom low given (i ∷ is) = (low < i.id.number) × IsOwnerOf i.id.number i.owner × RisesFrom i.id.number given is

abbrev pub IsRising : ℕ → List Instance → Type 0
IsRising given live = RisesFrom 0 given live
