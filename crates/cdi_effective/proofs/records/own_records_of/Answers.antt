use Rattle.cdi_effective.proofs.QualifierLemmas.{qualifiers_are_these}
use Rattle.cdi_effective.proofs.RecordLemmas.{edits_keep_own_records, edits_keep_records, records_are_own}
use Rattle.cdi_effective.proofs.records.own_records_of.Goals as goal

pub returns-clause-own : goal.returns-clause-own
returns-clause-own g c = records_are_own

pub returns-in_err-push_own-clause-own : goal.returns-in_err-push_own-clause-own
returns-in_err-push_own-clause-own g c = records_are_own

pub returns-clause-edits : goal.returns-clause-edits
returns-clause-edits g c = edits_keep_own_records

pub returns-in_err-push_own-clause-edits : goal.returns-in_err-push_own-clause-edits
returns-in_err-push_own-clause-edits g c = edits_keep_own_records

pub returns-clause-records : goal.returns-clause-records
returns-clause-records g c = edits_keep_records

pub returns-in_err-push_own-clause-records : goal.returns-in_err-push_own-clause-records
returns-in_err-push_own-clause-records g c = edits_keep_records

pub returns-clause-qualifiers : goal.returns-clause-qualifiers
returns-clause-qualifiers g c = qualifiers_are_these

pub returns-in_err-push_own-clause-qualifiers : goal.returns-in_err-push_own-clause-qualifiers
returns-in_err-push_own-clause-qualifiers g c = qualifiers_are_these
