use Rattle.std.proofs.Common.{◌≡◌}
use Rattle.std.specs.List.{list_any}
use Rattle.cdi_model.specs.Mentions.{mentions}
use Rattle.cdi_admission.specs.Admission.{is_malformed}
use Rattle.cdi_admission.proofs.names.has_malformed.Given as goal

abbrev pub invariant-loop-mention : goal.invariant-loop-mention
invariant-loop-mention l = list_any is_malformed l.mention-iterator ≡ list_any is_malformed (mentions l.decl)
