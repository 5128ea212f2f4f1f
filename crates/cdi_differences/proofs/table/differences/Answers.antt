use Rattle.std.proofs.Common.{map}
use Rattle.cdi_differences.proofs.ToldLemmas.{told}
use Rattle.cdi_differences.specs.Differences.{shown}
use Rattle.cdi_differences.proofs.table.differences.Goals as goal

pub returns-clause-told : goal.returns-clause-told
returns-clause-told c = told c.args.before.now c.args.after.now (λ list. map shown list.items) c.list_of.result c.list_of.ensures
