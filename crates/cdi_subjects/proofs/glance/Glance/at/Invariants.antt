use Rattle.std.proofs.Common.{◌≡◌, true, map, flat_map}
use Rattle.cdi_observe.specs.{Lending.are_answerable, Wanted.key_of_point, Wanted.point_named}
use Rattle.cdi_subjects.proofs.GlanceLemmas.{behind}
use Rattle.cdi_subjects.specs.Glance.{glance_at}
use Rattle.cdi_subjects.proofs.glance.Glance.at.Given as goal

abbrev pub invariant-loop-mention : goal.invariant-loop-mention
invariant-loop-mention g l =
    let ds = g.V.View.list l.view in
    let book = g.B.Bodies.promises l.book in
    record {
      looked : behind ds book l.decl l.glance l.mention-iterator ≡ glance_at ds book l.decl;
      answerable : are_answerable (g.V.View.kept l.view) (map key_of_point (flat_map point_named l.mention-iterator)) ≡ true;
    }
