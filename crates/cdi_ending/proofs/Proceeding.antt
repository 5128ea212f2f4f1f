-- What acts of callbacks do and take.
use Rattle.std.proofs.Common.{◌≡◌, ℕ, ◌+◌, Bool, true, false, ◌&&◌, length, refl}
use Rattle.std.proofs.lemmas.List.{length_push}
use Rattle.cdi_model.specs.declared.outcome.{Outcome.Outcome, Outcome.TheVariants.Failed, Failure.TheVariants.Steps}
use Rattle.cdi_bodies.specs.declared.act.{Act.Act, Frame.Frame, Act.TheVariants.Proceed}
use Rattle.cdi_contexts.specs.declared.instance.{Actor.Actor, InstanceId.InstanceId}
use Rattle.cdi_scene.specs.declared.{place.Place.TheVariants.Pre, place.Seat.Seat, scene.Scene.Scene}
use Rattle.cdi_legal.specs.{Acts.Permits, Ends.Ends, Ends.seat_on, Ends.asks_back, Moment.Moment}
use Rattle.cdi_ending.proofs.Before.{both}
use Rattle.cdi_ending.specs.{Back.is_proceeding, Back.Proceeds, Back.Pauses, Back.Halts, Back.with_answer, declared.shared.Shared.Shared}

-- a frame that has proceeded ends where it would proceed again
pub second_ends : (s : Scene) (seat : Seat) (k j : ℕ) (act : Act) (m : Moment) → Permits s seat act → is_proceeding act ≡ true
    → Ends s (asks_back seat k j true (Failed Steps)) m m
second_ends s seat k j (Proceed v) m h e = Ends.proceeded_twice seat k j v m h
second_ends s seat k j other m h e = cc

-- the same, where it has
pub twice_ends : (s : Scene) (seat : Seat) (k j : ℕ) (p : Bool) (act : Act) (m : Moment) → Permits s seat act
    → (is_proceeding act && p) ≡ true → Ends s (asks_back seat k j p (Failed Steps)) m m
twice_ends s seat k j true act m h e = second_ends s seat k j act m h (both (is_proceeding act) true e).0
twice_ends s seat k j false act m h e = let f : false ≡ true = (both (is_proceeding act) false e).1 in cc

-- a callback that has proceeded does not pause again
pub ends_at_last : (s : Scene) (i : InstanceId) (actor : Actor) (j : ℕ) (m : Moment) (pauses : Bool) (shared : Shared) (m' : Moment)
    → Halts s i actor j true m pauses shared m' → (k : ℕ) → Ends s (asks_back (seat_on i actor Pre) k j true shared.outcome) m m'
ends_at_last s i actor j m true shared m' h k = let e : true ≡ false = h.first in cc
ends_at_last s i actor j m false shared m' h k = h k

pub pauses_at : (s : Scene) (i : InstanceId) (actor : Actor) (j : ℕ) (p : Bool) (m : Moment) (pauses : Bool) (shared : Shared) (m' : Moment)
    → pauses ≡ true → Halts s i actor j p m pauses shared m' → Pauses s (seat_on i actor Pre) j p m shared m'
pauses_at s i actor j p m true shared m' e h = h
pauses_at s i actor j p m false shared m' e h = cc

-- what follows a proceeding follows the pause
pub pause_goes_on : (s : Scene) (i : InstanceId) (actor : Actor) (k j n : ℕ) (m : Moment) (shared : Shared) (m₁ : Moment) (r o : Outcome)
    (m₂ m' : Moment) → j ≡ 0 → Pauses s (seat_on i actor Pre) j false m shared m₁ → Proceeds s i k shared.argument m₁ r m₂
    → n ≡ length shared.shown.answers.items + 1 → Ends s (asks_back (seat_on i actor Pre) k n true o) m₂ m'
    → Ends s (asks_back (seat_on i actor Pre) k 0 false o) m m'
pause_goes_on s i actor k j n m shared m₁ r o m₂ m' fresh p d more e =
    let rest = Ends.proceeded_back _ i k _ shared.argument r o m₁ d.begun d.ended m₂ m' p.permitted p.few refl refl d.first d.invoked d.last
    (rw more at e) in
    rw fresh at p.rest k o m' rest

pub one_answer_more : (o : Outcome) (f : Frame) → length (with_answer o f).answers.items ≡ length f.answers.items + 1
one_answer_more o f = length_push f.answers.items o
