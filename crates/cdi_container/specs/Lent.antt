-- Injection points that are lent.
use Rattle.std.specs.Prelude.{◌≡◌, true, List, [], ◌++◌, flat_map, Option, Some, None}
use Rattle.std.specs.List.{list_all}
use Rattle.cdi_live.specs.State.{State as Live, knows}
use Rattle.cdi_observe.specs.Wanted.{key_of_point}
use Rattle.cdi_container.specs.Points.{PlacedPoint, ToldPoint, point_in, placed_points, told_at}
use Rattle.cdi_container.specs.declared.points.InjectionPoint.{InjectionPoint}
use Rattle.cdi_container.specs.declared.points.OwnPoints.{OwnPoints}
use Rattle.cdi_container.specs.declared.points.Placed.{Placed}
use Rattle.cdi_container.specs.declared.points.PlacedPoints.{PlacedPoints}

abbrev pub placed_at : Placed → PlacedPoint
placed_at p = record { owner = p.owner.now; place = p.place; point = p.point.now }

abbrev pub lent_at : InjectionPoint → ToldPoint
lent_at p = record { owner = p.owner.now; place = p.place; point = p.point.now; choice = p.choice.now }

-- the points of a declaration that are left
abbrev pub own_left : OwnPoints → List PlacedPoint
own_left own = flat_map (point_in own.owner.now) own.mentions

abbrev pub some_left : Option OwnPoints → List PlacedPoint
some_left None = []
some_left (Some own) = own_left own

-- those of a declaration that are left, and those of the declarations after it
abbrev pub placed_left : PlacedPoints → List PlacedPoint
placed_left p = some_left p.own ++ placed_points p.rest

-- the answers for some points are known
abbrev pub AreKnown : Live → List PlacedPoint → Type 0
AreKnown live points = list_all (λ p. knows live (key_of_point p.point)) points ≡ true
