use Rattle.std.proofs.Common.{◌≡◌, ap}
use Rattle.cdi_contexts.specs.Standing.{Standing, closed}
use Rattle.cdi_scene.specs.declared.scene.Scene.{Scene}
use Rattle.cdi_legal.specs.{LegalRun.LegalEnd, Moment.Moment, Moment.beginning}
use Rattle.cdi_legal.proofs.{Commands.end_follows, Commands.end_single, Faultless.commands_are_faultless, Ordering.commands_are_ordered}
use Rattle.cdi_legal.proofs.Housing.{both_ends_leave_nothing, end_rooted}
use Rattle.cdi_run.proofs.Staying.{end_stays}
use Rattle.cdi_run.specs.Known.{EndsAll}
use Rattle.cdi_run.proofs.player.Player.end_contexts.Goals as goal

-- both contexts ended, and then the request was closed
ended : (s : Scene) (before : Standing) (old end new : Moment) → old ≡ beginning before → EndsAll s old end
    → new ≡ record end { standing = closed end.standing } → LegalEnd s before new.trace new.standing
ended s before old end new began ends closes = record {
  middle = ends.middle;
  end = end;
  first = rw began at ends.request;
  then = ends.application;
  pushed = ap (λ (m : Moment). m.trace) closes;
  leaves = ap (λ (m : Moment). m.standing) closes;
}

pub returns-clause-follows : goal.returns-clause-follows
returns-clause-follows g c = end_follows
    (ended _ _ _ _ _ (rw c.in_ok-reserve_ends.ensures.same at c.restart_in_room.ensures.moment) c.in-Ok.ensures.ends
    c.close.ensures)

pub returns-clause-single : goal.returns-clause-single
returns-clause-single g c = end_single
    (ended _ _ _ _ _ (rw c.in_ok-reserve_ends.ensures.same at c.restart_in_room.ensures.moment) c.in-Ok.ensures.ends
    c.close.ensures)

pub returns-clause-furnished : goal.returns-clause-furnished
returns-clause-furnished g c = λ f.
    end_stays
    (ended _ _ _ _ _ (rw c.in_ok-reserve_ends.ensures.same at c.restart_in_room.ensures.moment) c.in-Ok.ensures.ends
    c.close.ensures) c.given-rising.ensures.rising f

pub returns-clause-rooted : goal.returns-clause-rooted
returns-clause-rooted g c = λ h.
    end_rooted
    (ended _ _ _ _ _ (rw c.in_ok-reserve_ends.ensures.same at c.restart_in_room.ensures.moment) c.in-Ok.ensures.ends
    c.close.ensures) c.given-rising.ensures.rising h

pub returns-clause-nothing : goal.returns-clause-nothing
returns-clause-nothing g c = λ h.
    both_ends_leave_nothing _ _ _ _ c.given-rising.ensures.rising h
    (ended _ _ _ _ _ (rw c.in_ok-reserve_ends.ensures.same at c.restart_in_room.ensures.moment) c.in-Ok.ensures.ends
    c.close.ensures)

pub returns-clause-ordered : goal.returns-clause-ordered
returns-clause-ordered g c =
    commands_are_ordered.end _ _ _ _
    (ended _ _ _ _ _ (rw c.in_ok-reserve_ends.ensures.same at c.restart_in_room.ensures.moment) c.in-Ok.ensures.ends
    c.close.ensures)

pub returns-clause-faultless : goal.returns-clause-faultless
returns-clause-faultless g c =
    (commands_are_faultless _).end _ _ _ _
    (ended _ _ _ _ _ (rw c.in_ok-reserve_ends.ensures.same at c.restart_in_room.ensures.moment) c.in-Ok.ensures.ends
    c.close.ensures) c.scene.ensures.sound
