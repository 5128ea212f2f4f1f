use Rattle.cdi_effective.proofs.ChainLemmas.{chains_are_these}
use Rattle.cdi_effective.proofs.ReplacedLemmas.{edits_keep_replaced, spared_stay}
use Rattle.cdi_effective.proofs.replaced.replaced_by.Goals as goal

pub returns-in-Bean-clause-chains : goal.returns-in-Bean-clause-chains
returns-in-Bean-clause-chains c = chains_are_these

pub returns-in-Bean-clause-edits : goal.returns-in-Bean-clause-edits
returns-in-Bean-clause-edits c = edits_keep_replaced

pub returns-in_default-clause-chains : goal.returns-in_default-clause-chains
returns-in_default-clause-chains c = chains_are_these

pub returns-in_default-clause-edits : goal.returns-in_default-clause-edits
returns-in_default-clause-edits c = edits_keep_replaced

pub returns-in-Bean-clause-spared : goal.returns-in-Bean-clause-spared
returns-in-Bean-clause-spared c = spared_stay

pub returns-in_default-clause-spared : goal.returns-in_default-clause-spared
returns-in_default-clause-spared c = spared_stay
