-- What is chosen for a look-up from outside stands in the scene, and has its methods there; and so do the observer methods that
-- an event notifies.
use Rattle.std.specs.Prelude.{◌≡◌, ℕ, true, List, None, IsSome}
use Rattle.cdi_model.specs.DeclList.{AreDistinct}
use Rattle.cdi_model.specs.declared.decl.Decl.{Decl}
use Rattle.cdi_model.specs.declared.quals.Qual.{Qual}
use Rattle.cdi_bodies.specs.Book.{Promised}
use Rattle.cdi_scene.specs.Scene.{bean_at, product_at, invocable_at}
use Rattle.cdi_scene.specs.Sound.{AreObservers}
use Rattle.cdi_scene.specs.declared.place.Place.TheVariants.{Method}
use Rattle.cdi_effective.specs.Beans.{beans}
use Rattle.cdi_effective.specs.declared.records.BeanId.{BeanId}
use Rattle.cdi_resolve.specs.Choices.{chosen}
use Rattle.cdi_resolve.specs.declared.choice.Choice.TheVariants.{One}
use Rattle.cdi_subjects.specs.Sites.{has_method}
use Rattle.cdi_staging.specs.Notifying.{notified_at}
use Rattle.cdi_staging.specs.Sites.{position_of_bean, managed_class, method_of}
use Rattle.cdi_staging.specs.Staged.{scene_of}

-- A chosen bean stands in the scene.
abbrev pub ChosenStands : Type 0
ChosenStands = (ds : List Decl) (book : List Promised) (t : List ℕ) (quals : List Qual) (id : BeanId) → AreDistinct ds
    → chosen ds (beans ds) t quals ≡ One id → IsSome (bean_at (scene_of ds book) (position_of_bean (beans ds) id))

-- A chosen bean that is no product has what is invoked for each of its methods, since a chosen bean is enabled.
abbrev pub ChosenHasMethods : Type 0
ChosenHasMethods = (ds : List Decl) (book : List Promised) (t : List ℕ) (quals : List Qual) (id : BeanId)
    (method : List ℕ) → AreDistinct ds → chosen ds (beans ds) t quals ≡ One id → has_method ds id method ≡ true
    → product_at (scene_of ds book) (position_of_bean (beans ds) id) ≡ None
    → IsSome (invocable_at (scene_of ds book) (position_of_bean (beans ds) id)
    (Method (method_of ds (managed_class id) method)))

-- The observer methods that are notified of an event stand in the scene, since their beans are enabled.
abbrev pub NotifiedStand : Type 0
NotifiedStand = (ds : List Decl) (book : List Promised) (t : List ℕ) (quals : List Qual) → AreDistinct ds
    → AreObservers (scene_of ds book) (notified_at ds (beans ds) t quals)
