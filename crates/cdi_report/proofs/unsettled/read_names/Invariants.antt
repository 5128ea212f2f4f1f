use Rattle.cdi_report.proofs.Common.{◌≡◌, true, is_among, is_name, take}
use Rattle.cdi_report.proofs.unsettled.read_names.Given as goal

abbrev pub invariant-loop-key : goal.invariant-loop-key
invariant-loop-key l = (k : _) → is_among (take l.key-index l.keys) k ≡ true → is_name k.name ≡ true
