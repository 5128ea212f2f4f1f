-- The law that runs rest on.
use Rattle.std.specs.Prelude.{◌≡◌, List, []}
use Rattle.cdi_model.specs.DeclList.{AreDistinct}
use Rattle.cdi_model.specs.Short.{AreShort}
use Rattle.cdi_model.specs.declared.decl.Decl.{Decl}
use Rattle.cdi_bodies.specs.Book.{Promised}
use Rattle.cdi_scene.specs.Sound.{IsSound}
use Rattle.cdi_staging.specs.Staged.{scene_of}
use Rattle.cdi_validate.specs.Faults.{faults}

-- A deployment without faults has a sound scene, where no two of its declarations have one kind and name and each has
-- short lists, as what is read and put has.
abbrev pub FaultlessIsSound : Type 0
FaultlessIsSound = (ds : List Decl) (book : List Promised) → AreDistinct ds → AreShort ds → faults ds book ≡ []
    → IsSound book (scene_of ds book)
