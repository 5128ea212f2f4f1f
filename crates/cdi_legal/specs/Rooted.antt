-- What live instances hang on: the context of a scope, or a live instance that they were made for (CDI 4.0, Dependent objects).
use Rattle.std.specs.Prelude.{List, IsSome}
use Rattle.std.specs.List.{AllByRecursion}
use Rattle.cdi_contexts.specs.Standing.{numbered}
use Rattle.cdi_contexts.specs.declared.instance.Instance.{Instance}
use Rattle.cdi_contexts.specs.declared.instance.Owner.{Owner}
use Rattle.cdi_contexts.specs.declared.instance.Owner.TheVariants.{Request, Application, Point, Nobody}

-- the owner is the context of a scope, or a point of a live instance
abbrev pub IsHome : List Instance → Owner → Type 0
IsHome live Request = Unit {0}
IsHome live Application = Unit {0}
IsHome live (Point n actor point) = IsSome (numbered live n)
IsHome live Nobody = ⊥

-- each live instance stands in the context of a scope, or was made for a point of a live instance
abbrev pub IsRooted : List Instance → Type 0
IsRooted live = AllByRecursion (λ i. IsHome live i.owner) live
