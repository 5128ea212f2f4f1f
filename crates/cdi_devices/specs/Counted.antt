-- What a counted reader or writer tells.
use Rattle.std.specs.Prelude.{◌≡◌, ℕ, ◌+◌, ◌-◌, ◌^◌, Bool, true, false, ◌||◌, ◌&&◌, ◌==◌, min, Result, MatchResult, is_ok, is_err, not}
use Rattle.cdi_devices.specs.declared.counted.Counted.{Counted}

module _ {T : Type 0} where
  abbrev pub inner_of : Counted T → T
  inner_of c = c.inner

  abbrev pub bytes_of : Counted T → ℕ
  bytes_of c = c.bytes

  -- a call answered an error, or a write took no byte
  abbrev pub has_failed : Counted T → Bool
  has_failed c = c.failed

  -- no byte was written since a flush last answered Ok, or ever
  abbrev pub is_flushed : Counted T → Bool
  is_flushed c = c.flushed

  -- each read so far came by a console, while all that its writer had taken was flushed, and behind no error
  abbrev pub is_settled : Counted T → Bool
  is_settled c = c.settled

  -- how many bytes the console's writer had taken when a read last came by one
  abbrev pub sent_before : Counted T → ℕ
  sent_before c = c.sent_before

  -- a read of n bytes adds them to the count, and an error is noted; and so is what was sent before the read, and whether it was flushed
  abbrev pub NotesReadBehind : {E : Type 0} → ℕ → Bool → Counted T → Counted T → Result ℕ E → Type 0
  NotesReadBehind sent flushed old new result = MatchResult result
      (λ n. (bytes_of new ≡ min (bytes_of old + n) (2 ^ 64 - 1)) × (has_failed new ≡ has_failed old))
      (λ _. (bytes_of new ≡ bytes_of old) × (has_failed new ≡ true))
      × (is_settled new ≡ (is_settled old && flushed && not (has_failed old))) × (sent_before new ≡ sent)

  -- the same of a read that comes by no console
  abbrev pub NotesRead : {E : Type 0} → Counted T → Counted T → Result ℕ E → Type 0
  NotesRead old new result = NotesReadBehind (sent_before old) false old new result

  -- a write of n bytes adds them to the count and leaves them to be flushed; an error is noted, and that no byte was taken
  abbrev pub NotesWrite : {E : Type 0} → Counted T → Counted T → Result ℕ E → Type 0
  NotesWrite old new result = MatchResult result
      (λ n. (bytes_of new ≡ min (bytes_of old + n) (2 ^ 64 - 1)) × (has_failed new ≡ (has_failed old || n == 0))
      × (is_flushed new ≡ (is_flushed old && n == 0)))
      (λ _. (bytes_of new ≡ bytes_of old) × (has_failed new ≡ true) × (is_flushed new ≡ is_flushed old))

  -- a flush that answers Ok is noted, and so is an error
  abbrev pub NotesFlush : {E : Type 0} → Counted T → Counted T → Result (Unit {0}) E → Type 0
  NotesFlush old new result = (bytes_of new ≡ bytes_of old) × (has_failed new ≡ (has_failed old || is_err result))
      × (is_flushed new ≡ (is_flushed old || is_ok result))
