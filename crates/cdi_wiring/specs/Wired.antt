-- What a deployment is found to be.
use Rattle.std.specs.Prelude.{◌≡◌, ℕ, ◌<◌, List, [], length}
use Rattle.cdi_model.specs.declared.decl.Decl.{Decl}
use Rattle.cdi_bodies.specs.Book.{Promised}
use Rattle.cdi_effective.specs.Beans.{beans}
use Rattle.cdi_scene.specs.Sound.{IsSound}
use Rattle.cdi_staging.specs.Naming.{names_of}
use Rattle.cdi_staging.specs.Listed.{ArePositions}
use Rattle.cdi_staging.specs.Staged.{scene_of}
use Rattle.cdi_validate.specs.Faults.{faults}
use Rattle.cdi_wiring.specs.declared.verdict.Wired.{Wired}
use Rattle.cdi_wiring.specs.declared.verdict.Wiring.{Wiring}
use Rattle.cdi_wiring.specs.declared.verdict.Wiring.TheVariants as wirings

abbrev pub count_of : Wiring → ℕ
count_of (wirings.Faulty count) = count
count_of (wirings.Sound wired) = 0

-- the scene of a deployment without faults, the positions of its beans, and the names of its traces
pub record IsWiredOf (ds : List Decl) (book : List Promised) (wired : Wired) : Type 0 where
  pub faultless : faults ds book ≡ []
  pub scene : wired.scene ≡ scene_of ds book
  pub sound : IsSound book (scene_of ds book)
  pub listed : ArePositions (beans ds) wired.positions
  pub names : wired.names ≡ names_of ds

-- the number of faults, or that
abbrev pub IsWiringOf : List Decl → List Promised → Wiring → Type 0
IsWiringOf ds book (wirings.Faulty count) = (count ≡ length (faults ds book)) × (0 < count)
IsWiringOf ds book (wirings.Sound wired) = IsWiredOf ds book wired
