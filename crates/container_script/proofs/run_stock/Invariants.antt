use Rattle.std.proofs.Common.{◌≡◌, ◌++◌, drop, map}
use Rattle.cdi_stock.specs.Table.{promised, stored}
use Rattle.container_script.proofs.run_stock.Given as goal

abbrev pub invariant-loop-entry : goal.invariant-loop-entry
invariant-loop-entry g l = map (λ body. (body.name, body.promise)) l.bodies.items ++ map promised (drop l.entry-index l.table) ≡ stored
