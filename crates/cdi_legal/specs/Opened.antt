-- What is open at a point of a trace, and its limits (profile).
use Rattle.std.specs.Prelude.{ℕ, ◌+◌, ◌≤◌, Bool, true, false, not, ◌||◌, List, [], ◌∷◌, drop, filter, length}
use Rattle.std.specs.List.{AllByRecursion}
use Rattle.cdi_contexts.specs.declared.instance.InstanceId.{InstanceId}
use Rattle.cdi_scene.specs.declared.place.Seat.{Seat}
use Rattle.cdi_legal.specs.declared.entry.Entry.{Entry}
use Rattle.cdi_legal.specs.declared.entry.Entry.TheVariants as entries

pub data Opening : Type 0 where
  -- an instance is being created
  creation : InstanceId → Opening
  -- a body runs at a seat: whether that is within a destruction, how many acts it has made, and how many of these proceed
  frame : Seat → Bool → ℕ → ℕ → Opening
  -- an instance is being destroyed
  destruction : InstanceId → Opening

-- what an entry does to what is open
pub data Turn : Type 0 where
  creates : InstanceId → Turn
  enters : Seat → Turn
  destroys : InstanceId → Turn
  -- the youngest that is open is closed
  closes : Turn
  -- it is a frame, and its body acts, or proceeds
  acting : Turn
  proceeding : Turn
  none : Turn

abbrev pub turn : Entry → Turn
turn (entries.Create id owner) = creates id
turn (entries.Ready id product) = closes
turn (entries.Broken id failure) = closes
turn (entries.Enter seat arg) = enters seat
turn (entries.Leave outcome) = closes
turn (entries.Destroy id) = destroys id
turn (entries.Gone id) = closes
turn (entries.Loaded value) = acting
turn (entries.Stored number actor value) = acting
turn (entries.Called seat site arg) = acting
turn (entries.Fired seat site arg) = acting
turn (entries.Proceeded arg) = proceeding
turn entry = none

abbrev pub is_destruction : Opening → Bool
is_destruction (creation id) = false
is_destruction (frame seat within acts proceedings) = false
is_destruction (destruction id) = true

-- an instance is being destroyed
abbrev pub is_ending : List Opening → Bool
is_ending [] = false
is_ending (x ∷ xs) = is_destruction x || is_ending xs

-- the youngest has made one more act, and so many more that proceed
abbrev pub acted : ℕ → List Opening → List Opening
acted p [] = []
acted p (creation id ∷ xs) = creation id ∷ xs
acted p (destruction id ∷ xs) = destruction id ∷ xs
acted p (frame seat within acts proceedings ∷ xs) = frame seat within (acts + 1) (proceedings + p) ∷ xs

abbrev pub turned : List Opening → Turn → List Opening
turned xs (creates id) = creation id ∷ xs
turned xs (enters seat) = frame seat (is_ending xs) 0 0 ∷ xs
turned xs (destroys id) = destruction id ∷ xs
turned xs closes = drop 1 xs
turned xs acting = acted 0 xs
turned xs proceeding = acted 1 xs
turned xs none = xs

abbrev pub opened_after : List Opening → List Entry → List Opening
opened_after xs [] = xs
opened_after xs (e ∷ es) = opened_after (turned xs (turn e)) es

-- what is open after these entries, the youngest first
abbrev pub opened : List Entry → List Opening
opened trace = opened_after [] trace

-- ---- limits

-- a creation, or a frame that is not within a destruction
abbrev pub is_outside : Opening → Bool
is_outside (creation id) = true
is_outside (frame seat within acts proceedings) = not within
is_outside (destruction id) = false

abbrev pub outside : List Opening → ℕ
outside xs = length (filter is_outside xs)

-- a frame makes at most 64 acts; within a destruction 8, and one of them proceeds at most
abbrev pub IsWithin : Opening → Type 0
IsWithin (creation id) = Unit {0}
IsWithin (frame seat false acts proceedings) = acts ≤ 64
IsWithin (frame seat true acts proceedings) = (acts ≤ 8) × (proceedings ≤ 1)
IsWithin (destruction id) = Unit {0}

-- at most 32 creations and frames are open outside destruction
pub record IsInLimits (xs : List Opening) : Type 0 where
  pub few : outside xs ≤ 32
  pub each : AllByRecursion IsWithin xs
