use Rattle.std.proofs.Common.{◌≡◌, ℕ, ◌≤◌, ◌+◌, ◌-◌, length}
use Rattle.cdi_model.specs.declared.outcome.Outcome.{Outcome}
use Rattle.cdi_scene.specs.declared.place.Place.TheVariants.{Pre}
use Rattle.cdi_legal.specs.{Ends.Ends, Ends.asks_back, Ends.seat_on, Moment.Moment}
use Rattle.cdi_ending.specs.Room.{IsSteady}
use Rattle.cdi_ending.proofs.stage.Stage.ask_on.Given as goal

abbrev pub invariant-asking : goal.invariant-asking
invariant-asking g l = record {
  calls : l.shared.shown.calls ≡ length l.part.calls;
  fires : l.shared.shown.fires ≡ length l.part.fires;
  few : length l.shared.shown.answers.items ≤ 8;
  steady : IsSteady l.fn.run.moment.standing l.run.moment.standing;
  spent : l.fn.run.room + length l.fn.shared.shown.answers.items ≤ l.run.room + length l.shared.shown.answers.items;
  rest : (k : ℕ) (o : Outcome) (m : Moment) → Ends l.self.scene
      (asks_back (seat_on l.id l.actor Pre) k (length l.shared.shown.answers.items) l.has_proceeded o) l.run.moment m
      → Ends l.self.scene
      (asks_back (seat_on l.id l.actor Pre) k (length l.fn.shared.shown.answers.items) l.has_proceeded o) l.fn.run.moment m;
}

abbrev pub decreases-asking : goal.decreases-asking
decreases-asking g l = 8 - length l.shared.shown.answers.items
