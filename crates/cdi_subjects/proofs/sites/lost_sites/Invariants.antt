use Rattle.std.proofs.Common.{◌≡◌, ◌++◌, true, map, flat_map}
use Rattle.cdi_observe.specs.{Answers.answer_to, Lending.are_answerable, Wanted.key_of_point}
use Rattle.cdi_subjects.specs.{Filter.found_in, Sites.lost_in, Sites.lost_sites, Sites.params_given}
use Rattle.cdi_subjects.proofs.sites.lost_sites.Given as goal

abbrev pub invariant-loop-mention : goal.invariant-loop-mention
invariant-loop-mention g l =
    let ds = g.V.View.list l.view in
    record {
      lost : l.subjects.items ++ found_in (lost_in ds (answer_to ds) l.beans l.decl) l.mention-iterator
          ≡ lost_sites ds (answer_to ds) l.beans l.decl;
      answerable : are_answerable (g.V.View.kept l.view) (map key_of_point (flat_map params_given l.mention-iterator)) ≡ true;
    }
