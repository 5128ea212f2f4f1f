use Rattle.std.proofs.Common.{◌≡◌, true, drop, filter, fold, IfSome}
use Rattle.cdi_explain.specs.Near.{is_near, is_other, known_in, nearer, nearest}
use Rattle.cdi_explain.proofs.near.nearest.Given as goal

abbrev pub invariant-loop-known : goal.invariant-loop-known
invariant-loop-known l = record {
  rest : fold (nearer l.wanted.name) l.best (filter (is_other l.wanted.name) (known_in (drop l.known-index l.declared)))
      ≡ nearest l.wanted.name (filter (is_other l.wanted.name) (known_in l.declared));
  near : IfSome l.best (λ near. is_near l.wanted.name near.distance ≡ true);
}
