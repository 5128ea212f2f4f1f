use Rattle.cdi_effective.proofs.Common.{◌≡◌, drop, uses_in, ◌++◌, built_in_of}
use Rattle.cdi_effective.proofs.qualifiers.qualifiers_of.Given as goal

abbrev pub invariant-loop-qual : goal.invariant-loop-qual
invariant-loop-qual l = uses_in l.uses.items ++ uses_in (drop l.qual-index l.declared) ≡ built_in_of l.last l.fn.name ++ uses_in l.declared
