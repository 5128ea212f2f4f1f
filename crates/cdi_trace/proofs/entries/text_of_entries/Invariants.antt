use Rattle.std.proofs.Common.{◌≡◌}
use Rattle.cdi_trace.specs.TraceText.{text_of_entries}
use Rattle.cdi_trace.proofs.entries.text_of_entries.Given as goal

abbrev pub invariant-loop-entry : goal.invariant-loop-entry
invariant-loop-entry l = l.own.items ≡ text_of_entries l.names l.yielded
