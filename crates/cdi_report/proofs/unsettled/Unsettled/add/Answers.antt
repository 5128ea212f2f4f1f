use Rattle.cdi_report.proofs.{KeptLemmas.settled_stay, TogetherLemmas.more_is_settled}
use Rattle.cdi_report.proofs.unsettled.Unsettled.add.Goals as goal

pub returns-in_err-add_keys-clause-stays : goal.returns-in_err-add_keys-clause-stays
returns-in_err-add_keys-clause-stays c = settled_stay

pub returns-clause-stays : goal.returns-clause-stays
returns-clause-stays c = settled_stay

pub returns-in_err-add_keys-clause-settled : goal.returns-in_err-add_keys-clause-settled
returns-in_err-add_keys-clause-settled c = more_is_settled

pub returns-clause-settled : goal.returns-clause-settled
returns-clause-settled c = more_is_settled
