use Rattle.cdi_container.proofs.ToldLemmas.{is_told}
use Rattle.cdi_container.proofs.container.history_laws.Goals as goal

pub returns-clause-told : goal.returns-clause-told
returns-clause-told c = is_told
