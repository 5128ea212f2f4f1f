use Rattle.cdi_uses.proofs.EventLemmas.{events_read_back}
use Rattle.cdi_uses.proofs.events.event_of.Goals as goal

pub returns-in_err-quals_in-clause-events : goal.returns-in_err-quals_in-clause-events
returns-in_err-quals_in-clause-events c = events_read_back

pub returns-clause-events : goal.returns-clause-events
returns-clause-events c = events_read_back
