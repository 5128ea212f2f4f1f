use Rattle.std.proofs.Common.{◌≡◌, ◌++◌, drop, map, nat_eq}
use Rattle.std.specs.{Cmp.Lexicographic.pointwise, List.IsDistinct}
use Rattle.cdi_bodies.proofs.book.names_of.Given as goal

abbrev pub invariant-loop-body : goal.invariant-loop-body
invariant-loop-body g l = record {
  names : l.names.keys ++ map (λ body. body.name) (drop l.body-index l.bodies) ≡ map (λ body. body.name) l.bodies;
  unique : IsDistinct (pointwise nat_eq) l.names.keys;
}
