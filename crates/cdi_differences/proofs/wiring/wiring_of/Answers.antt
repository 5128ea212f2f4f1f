use Rattle.std.proofs.Common.{IfOk, subst}
use Rattle.cdi_differences.specs.Holds.{HoldsLines}
use Rattle.cdi_differences.proofs.wiring.wiring_of.Goals as goal

pub returns : goal.returns
returns g c = subst (λ lines. IfOk c.table_of.result (λ table. HoldsLines table lines)) c.in_ok-lines.ensures c.table_of.ensures
