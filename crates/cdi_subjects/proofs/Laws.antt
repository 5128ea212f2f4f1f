-- What the records of a declaration tell of what is at fault in it, and that the answers to its points may be asked for.
use Rattle.cdi_observe.proofs.LendingLemmas.{points-answerable}
use Rattle.cdi_subjects.proofs.RecordLemmas.{conditional_by_entries, conflicts_by_entries, lacked_by_entries, typed_by_entries}

pub ruleset by_entries = (typed_by_entries, conflicts_by_entries, conditional_by_entries, lacked_by_entries)

pub ruleset asked = (points-answerable)
