use Rattle.std.proofs.Common.{◌≡◌, drop}
use Rattle.std.specs.List.{find}
use Rattle.cdi_subjects.specs.Proxies.{is_told_by}
use Rattle.cdi_subjects.proofs.proxies.record_of.Given as goal

abbrev pub invariant-loop-record : goal.invariant-loop-record
invariant-loop-record l = find (is_told_by l.producer) (drop l.record-index l.records) ≡ find (is_told_by l.producer) l.records
