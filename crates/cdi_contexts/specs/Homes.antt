-- Where an instance is found without a walk: in the context of a scope by its bean, or at the point that it was made for.
use Rattle.std.specs.Prelude.{◌≡◌, ℕ, Bool, ◌==◌, ◌&&◌, if◌then◌else◌, List, Option, Some, None}
use Rattle.std.specs.HashMap.{get}
use Rattle.std.specs.List.{find}
use Rattle.std.specs.Option.{option_map}
use Rattle.cdi_model.specs.declared.decl.Scope.TheVariants as scopes
use Rattle.cdi_contexts.specs.Owned.{is_at, is_of}
use Rattle.cdi_contexts.specs.SameHomes.{same_home}
use Rattle.cdi_contexts.specs.declared.homes.Home.{Home}
use Rattle.cdi_contexts.specs.declared.homes.Home.TheVariants as homes
use Rattle.cdi_contexts.specs.declared.homes.Homes.{Homes}
use Rattle.cdi_contexts.specs.declared.instance.Instance.{Instance}
use Rattle.cdi_contexts.specs.declared.instance.Owner.{Owner}
use Rattle.cdi_contexts.specs.declared.instance.Owner.TheVariants.{Request, Application, Point, Nobody}

-- where an instance of a bean lives, by its owner; nobody's has no home
abbrev pub home_of : ℕ → Owner → Option Home
home_of bean Request = Some (homes.Request bean)
home_of bean Application = Some (homes.Application bean)
home_of bean (Point n actor p) = Some (homes.Point n actor p)
home_of bean Nobody = None

-- an instance of a bean with such an owner lives there
abbrev pub is_home_of : Home → ℕ → Owner → Bool
is_home_of (homes.Request b) bean owner = (bean == b) && is_of scopes.Request owner
is_home_of (homes.Application b) bean owner = (bean == b) && is_of scopes.Application owner
is_home_of (homes.Point n actor p) bean owner = is_at n actor p owner

abbrev pub lives_at : Home → Instance → Bool
lives_at home i = is_home_of home i.id.bean i.owner

-- the oldest of some instances that lives there, and its number
abbrev pub living_at : Home → List Instance → Option Instance
living_at home live = find (lives_at home) live

abbrev pub oldest_at : Home → List Instance → Option ℕ
oldest_at home live = option_map (λ i. i.id.number) (living_at home live)

-- the number that is kept for a home
abbrev pub kept_at : Homes → Home → Option ℕ
kept_at homes home = get same_home homes.oldest home

-- for each home the number of the oldest live instance there is kept
abbrev pub AreHomesOf : Homes → List Instance → Type 0
AreHomesOf homes live = (home : Home) → kept_at homes home ≡ oldest_at home live

-- what is kept for a home once an instance with number n, younger than all others, lives at one that is or is not this
abbrev pub joined : Option ℕ → Bool → ℕ → Option ℕ
joined (Some m) here n = Some m
joined None here n = if here then Some n else None

-- what is kept once the one with number n, which lived there or elsewhere, is gone, and behind it comes this one
abbrev pub left_of : Option ℕ → Bool → ℕ → Option ℕ → Option ℕ
left_of None here n next = None
left_of (Some m) here n next = if here && (m == n) then next else Some m
