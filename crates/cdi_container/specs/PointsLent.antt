-- What lent injection points show.
use Rattle.std.specs.Prelude.{List}
use Rattle.cdi_container.specs.Points.{ToldPoint, points_told}
use Rattle.cdi_container.specs.declared.points.Points.{Points}

-- the points of the declarations that are lent, with what is chosen for each among these
abbrev pub points_lent : Points → List ToldPoint
points_lent points = points_told points.live.now.decls
