-- The text of what has a fault.
use Rattle.std.proofs.Common.{◌≡◌, ◌∷◌, ℕ, List, refl}
use Rattle.std.specs.Prelude.{Some, None, ◌≢◌}
use Rattle.cdi_model.specs.{declared.place.PartPlace.PartPlace, PlaceText.text_of_part_place, Bytes.space}
use Rattle.cdi_model.specs.declared.decl.UseKind.TheVariants as uses
use Rattle.cdi_model.specs.declared.mention.PointPlace.TheVariants as points
use Rattle.cdi_model.specs.declared.place.PartPlace.TheVariants as places
use Rattle.cdi_faults.specs.{declared.fault.Subject.Subject, FaultText.text_of_subject, FaultText.behind_space}
use Rattle.cdi_faults.specs.declared.fault.Subject.TheVariants as subjects

behind_space_of_place : (place : PartPlace) → behind_space (text_of_part_place place) ≡ space ∷ text_of_part_place place
behind_space_of_place places.Construct = refl
behind_space_of_place other = refl

behind_space_of_call : (place : PartPlace) (point method : List ℕ)
    → behind_space (text_of_subject (subjects.Call place point method)) ≡ space ∷ text_of_subject (subjects.Call place point method)
behind_space_of_call places.Construct point method = refl
behind_space_of_call other point method = refl

-- what is not the declaration as a whole has a text
pub behind_space_of : (m : Subject) → m ≢ subjects.Whole → behind_space (text_of_subject m) ≡ space ∷ text_of_subject m
behind_space_of subjects.Whole h = absurd (h refl)
behind_space_of (subjects.Type name) h = refl
behind_space_of (subjects.Used uses.Qualifier name) h = refl
behind_space_of (subjects.Used uses.Binding name) h = refl
behind_space_of (subjects.Stereotype name) h = refl
behind_space_of (subjects.Extends name) h = refl
behind_space_of (subjects.Implements name) h = refl
behind_space_of subjects.Class h = refl
behind_space_of (subjects.Typed None name) h = refl
behind_space_of (subjects.Typed (Some producer) name) h = refl
behind_space_of (subjects.Producer name) h = refl
behind_space_of (subjects.Disposer name) h = refl
behind_space_of (subjects.Observer name) h = refl
behind_space_of (subjects.Use uses.Qualifier u) h = refl
behind_space_of (subjects.Use uses.Binding u) h = refl
behind_space_of (subjects.Point points.Constructor point) h = refl
behind_space_of (subjects.Point (points.Producer method) point) h = refl
behind_space_of (subjects.Point (points.Observer method) point) h = refl
behind_space_of (subjects.Part place) h = behind_space_of_place place
behind_space_of (subjects.Call place point method) h = behind_space_of_call place point method
