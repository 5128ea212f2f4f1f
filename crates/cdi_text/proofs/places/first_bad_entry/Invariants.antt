use Rattle.cdi_text.proofs.places.first_bad_entry.Given as goal

abbrev pub invariant-loop-index : goal.invariant-loop-index
invariant-loop-index l = Unit {0}
