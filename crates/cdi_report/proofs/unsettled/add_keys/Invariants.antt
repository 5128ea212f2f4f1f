use Rattle.cdi_report.proofs.Common.{◌≡◌, same_key, is_among, ◌||◌, contains, take}
use Rattle.cdi_report.proofs.unsettled.add_keys.Given as goal

abbrev pub invariant-loop-key : goal.invariant-loop-key
invariant-loop-key l = (k : _)
    → contains same_key l.set k ≡ (contains same_key l.fn.set k || is_among (take l.key-index l.keys) k)
