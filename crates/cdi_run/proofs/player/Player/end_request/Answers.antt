use Rattle.std.proofs.Common.{◌≡◌, ap}
use Rattle.cdi_model.specs.declared.decl.Scope.TheVariants.{Request}
use Rattle.cdi_contexts.specs.Standing.{Standing, closed}
use Rattle.cdi_scene.specs.declared.scene.Scene.{Scene}
use Rattle.cdi_legal.specs.{Ends.Ends, Ends.context, LegalRun.LegalRequestEnd, Moment.Moment, Moment.beginning}
use Rattle.cdi_legal.proofs.{Commands.request_end_follows, Commands.request_end_single, Housing.request_end_rooted}
use Rattle.cdi_legal.proofs.{Faultless.commands_are_faultless, Ordering.commands_are_ordered}
use Rattle.cdi_run.proofs.Staying.{request_end_stays}
use Rattle.cdi_run.proofs.player.Player.end_request.Goals as goal

-- the context ended, and then the request was closed
ended : (s : Scene) (before : Standing) (old end new : Moment) → old ≡ beginning before
    → Ends s (context Request) old end → new ≡ record end { standing = closed end.standing }
    → LegalRequestEnd s before new.trace new.standing
ended s before old end new began ends closes = record {
  end = end;
  ends = rw began at ends;
  pushed = ap (λ (m : Moment). m.trace) closes;
  leaves = ap (λ (m : Moment). m.standing) closes;
}

pub returns-clause-follows : goal.returns-clause-follows
returns-clause-follows g c =
    request_end_follows
    (ended _ _ _ _ _ (rw c.in_ok-reserve_ends.ensures.same at c.restart_in_room.ensures.moment) c.in-Ok.ensures.legal
    c.close.ensures)

pub returns-clause-single : goal.returns-clause-single
returns-clause-single g c =
    request_end_single
    (ended _ _ _ _ _ (rw c.in_ok-reserve_ends.ensures.same at c.restart_in_room.ensures.moment) c.in-Ok.ensures.legal
    c.close.ensures)

pub returns-clause-furnished : goal.returns-clause-furnished
returns-clause-furnished g c = λ f.
    request_end_stays
    (ended _ _ _ _ _ (rw c.in_ok-reserve_ends.ensures.same at c.restart_in_room.ensures.moment) c.in-Ok.ensures.legal
    c.close.ensures) c.given-rising.ensures.rising f

pub returns-clause-rooted : goal.returns-clause-rooted
returns-clause-rooted g c = λ h.
    request_end_rooted
    (ended _ _ _ _ _ (rw c.in_ok-reserve_ends.ensures.same at c.restart_in_room.ensures.moment) c.in-Ok.ensures.legal
    c.close.ensures) c.given-rising.ensures.rising h

pub returns-clause-ordered : goal.returns-clause-ordered
returns-clause-ordered g c =
    commands_are_ordered.request_end _ _ _ _
    (ended _ _ _ _ _ (rw c.in_ok-reserve_ends.ensures.same at c.restart_in_room.ensures.moment) c.in-Ok.ensures.legal
    c.close.ensures)

pub returns-clause-faultless : goal.returns-clause-faultless
returns-clause-faultless g c =
    (commands_are_faultless _).request_end _ _ _ _
    (ended _ _ _ _ _ (rw c.in_ok-reserve_ends.ensures.same at c.restart_in_room.ensures.moment) c.in-Ok.ensures.legal
    c.close.ensures) c.scene.ensures.sound
