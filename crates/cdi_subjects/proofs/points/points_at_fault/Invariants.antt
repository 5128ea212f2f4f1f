use Rattle.std.proofs.Common.{◌≡◌, ◌++◌, true, map, flat_map}
use Rattle.cdi_observe.specs.{Answers.answer_to, Lending.are_answerable, Wanted.key_of_point, Wanted.point_named}
use Rattle.cdi_subjects.specs.{Filter.found_in, Subjects.has_verdict, Subjects.point_in, Subjects.points_at_fault}
use Rattle.cdi_subjects.proofs.points.points_at_fault.Given as goal

abbrev pub invariant-loop-mention : goal.invariant-loop-mention
invariant-loop-mention g l =
    let ds = g.V.View.list l.view in
    let test = has_verdict ds l.verdict in
    record {
      found : l.subjects.items ++ found_in (point_in test (answer_to ds) l.beans l.decl) l.mention-iterator
          ≡ points_at_fault test (answer_to ds) l.beans l.decl;
      answerable : are_answerable (g.V.View.kept l.view) (map key_of_point (flat_map point_named l.mention-iterator)) ≡ true;
    }
