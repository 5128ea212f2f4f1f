use Rattle.std.proofs.Common.{◌≡◌, ◌||◌, ℕ, List, drop}
use Rattle.cdi_uses.specs.Twice.{is_text_among}
use Rattle.cdi_admission.specs.{TextSets.has_text, Admission.point_names}
use Rattle.cdi_admission.proofs.params.names_of.Given as goal

abbrev pub invariant-loop-point : goal.invariant-loop-point
invariant-loop-point l = (text : List ℕ) → (has_text l.names text || is_text_among (point_names (drop l.point-index l.points)) text)
    ≡ is_text_among (point_names l.points) text
