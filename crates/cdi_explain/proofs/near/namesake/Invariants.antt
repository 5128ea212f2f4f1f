use Rattle.std.proofs.Common.{◌≡◌, drop}
use Rattle.std.specs.List.{find}
use Rattle.cdi_explain.specs.Near.{is_namesake, known_in}
use Rattle.cdi_explain.proofs.near.namesake.Given as goal

abbrev pub invariant-loop-known : goal.invariant-loop-known
invariant-loop-known l =
    find (is_namesake l.wanted.name) (known_in (drop l.known-index l.declared)) ≡ find (is_namesake l.wanted.name) (known_in l.declared)
