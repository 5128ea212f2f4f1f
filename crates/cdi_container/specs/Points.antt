-- The injection points of declarations, with what is chosen for each (CDI 4.0, Injection points; Performing typesafe resolution).
use Rattle.std.specs.Prelude.{List, [], ◌∷◌, map, flat_map}
use Rattle.cdi_model.specs.declared.decl.Decl.{Decl}
use Rattle.cdi_model.specs.declared.decl.PointDecl.{PointDecl}
use Rattle.cdi_model.specs.declared.mention.PointPlace.{PointPlace}
use Rattle.cdi_model.specs.Mentions.{Mention, PointOf, mentions}
use Rattle.cdi_observe.specs.Answers.{answer_to}
use Rattle.cdi_resolve.specs.declared.choice.Choice.{Choice}

-- an injection point, the declaration of the bean or the interceptor that has it, and of what it is a parameter
pub record PlacedPoint : Type 0 where
  pub owner : Decl
  pub place : PointPlace
  pub point : PointDecl

-- the point that a declaration names in one place, if it names one there
abbrev pub point_in : Decl → Mention → List PlacedPoint
point_in owner (PointOf place point) = record { owner = owner; place = place; point = point } ∷ []
point_in owner other = []

-- the points of a declaration, in the order in which it names them
abbrev pub points_in : Decl → List PlacedPoint
points_in owner = flat_map (point_in owner) (mentions owner)

-- those of some declarations, in order
abbrev pub placed_points : List Decl → List PlacedPoint
placed_points ds = flat_map points_in ds

-- a point and the bean that is chosen for it, or why none is
pub record ToldPoint : Type 0 where
  pub owner : Decl
  pub place : PointPlace
  pub point : PointDecl
  pub choice : Choice

abbrev pub told_at : List Decl → PlacedPoint → ToldPoint
told_at ds p = record { owner = p.owner; place = p.place; point = p.point; choice = answer_to ds p.point }

-- the points of some declarations, with what is chosen for each among these
unfoldable pub points_told : List Decl → List ToldPoint
points_told ds = map (told_at ds) (placed_points ds)
