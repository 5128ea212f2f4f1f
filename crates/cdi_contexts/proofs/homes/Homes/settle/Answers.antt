use Rattle.cdi_contexts.proofs.HomeLemmas.{joined-nobodys}
use Rattle.cdi_contexts.specs.Homes.{kept_at}
use Rattle.cdi_contexts.proofs.homes.Homes.settle.Goals as goal

pub returns-in-None-clause-ok : goal.returns-in-None-clause-ok
returns-in-None-clause-ok c = λ h. joined-nobodys c.args.instance.now h (kept_at c.args.self.now h) c.in-None.ensures
