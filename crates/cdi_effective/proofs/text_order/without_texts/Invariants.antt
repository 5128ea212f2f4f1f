use Rattle.cdi_effective.proofs.Common.{◌≡◌, drop, uses_in, ◌++◌, written_in}
use Rattle.cdi_effective.proofs.text_order.without_texts.Given as goal

abbrev pub invariant-loop-written : goal.invariant-loop-written
invariant-loop-written l = uses_in l.bindings.items ++ written_in (drop l.written-index l.list) ≡ written_in l.list
