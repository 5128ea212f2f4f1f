-- That instances have the dependent objects that were made for their injection points (CDI 4.0, Dependent objects).
use Rattle.std.specs.Prelude.{◌≡◌, ℕ, false, List, Some, true, slice_get}
use Rattle.std.specs.List.{AllByRecursion}
use Rattle.cdi_contexts.specs.Standing.{made_for}
use Rattle.cdi_contexts.specs.declared.instance.Instance.{Instance}
use Rattle.cdi_contexts.specs.declared.instance.InstanceId.{InstanceId}
use Rattle.cdi_scene.specs.Scene.{bean_at, managed_at}
use Rattle.cdi_scene.specs.Sound.{home_of, params_at}
use Rattle.cdi_scene.specs.declared.place.Seat.{Seat}
use Rattle.cdi_scene.specs.declared.scene.Bean.{Bean}
use Rattle.cdi_scene.specs.declared.scene.Injection.{Injection}
use Rattle.cdi_scene.specs.declared.scene.Managed.{Managed}
use Rattle.cdi_scene.specs.declared.scene.Scene.{Scene}
use Rattle.cdi_legal.specs.Ends.{Held}
use Rattle.cdi_legal.specs.Legal.{at, is_normal}

-- the bean is a dependent one
pub record IsDependent (s : Scene) (b : ℕ) : Type 0 where
  pub bean : Bean
  pub there : bean_at s b ≡ Some bean
  pub scoped : is_normal bean.scope ≡ false

-- a ready instance of the chosen bean stands for the injection point of instance n
pub record IsMade (live : List Instance) (n : ℕ) (point : Injection) : Type 0 where
  pub made : Instance
  pub there : made_for live n point.actor point.point ≡ Some made
  pub bean : made.id.bean ≡ point.bean
  pub ready : made.is_ready ≡ true

-- one stands for each injection point for which a dependent bean is chosen
abbrev pub HasDependents : Scene → List Instance → InstanceId → Type 0
HasDependents s live i =
    (managed : Managed) (k : ℕ) (point : Injection) → managed_at s i.bean ≡ Some managed
    → slice_get managed.injections k ≡ Some point → IsDependent s point.bean → IsMade live i.number point

-- each ready instance has its dependent objects
abbrev pub IsFurnished : Scene → List Instance → Type 0
IsFurnished s live = AllByRecursion (λ i. i.is_ready ≡ true → HasDependents s live i.id) live

-- an instance stands for each parameter for which a dependent bean is chosen, and has its own dependent objects
pub record IsHeld (s : Scene) (live : List Instance) (h : Held) (p b : ℕ) : Type 0 where
  pub number : ℕ
  pub there : slice_get h p ≡ Some (Some (at b number))
  pub has : HasDependents s live (at b number)

-- whoever runs at the seat has what its call sites may name: the dependent objects of its instance and of its parameters
pub record IsServed (s : Scene) (live : List Instance) (seat : Seat) (h : Held) : Type 0 where
  pub own : (n : ℕ) → seat.number ≡ Some n → HasDependents s live (at (home_of s seat.bean seat.place) n)
  pub params : (p b : ℕ) → slice_get (params_at s seat.bean seat.place) p ≡ Some b → IsDependent s b → IsHeld s live h p b
