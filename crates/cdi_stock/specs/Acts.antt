-- What each of the program's bodies does: its next act, as a function of what it is shown (profile). Sums and products
-- stop at the ends of what an i64 can say.
use Rattle.std.specs.Prelude.{◌-◌, ◌%◌, ◌==◌, ◌*ℤ◌, ◌+ℤ◌, ℤ, pos, negsuc, nat_lt, unsigned_abs, Bool, false, if◌then◌else◌}
use Rattle.std.specs.Prelude.{List, [], ◌∷◌, length, slice_get, Option, Some, None}
use Rattle.std.specs.Int.{saturate_signed, is_negative, w64}
use Rattle.cdi_model.specs.declared.outcome.Val.{Val}
use Rattle.cdi_model.specs.declared.outcome.Val.TheVariants.{Null, Int}
use Rattle.cdi_model.specs.declared.outcome.Failure.TheVariants.{User}
use Rattle.cdi_model.specs.declared.outcome.Outcome.{Outcome}
use Rattle.cdi_model.specs.declared.outcome.Outcome.TheVariants.{Value, Failed}
use Rattle.cdi_bodies.specs.declared.act.Act.{Act}
use Rattle.cdi_bodies.specs.declared.act.Act.TheVariants.{Load, Store, Call, Fire, Proceed, Return, Fail}
use Rattle.cdi_bodies.specs.declared.act.Frame.{Frame}

-- ---- values and answers

-- the number that a value is, with null taken as 0
abbrev pub number_of : Val → ℤ
number_of Null = pos 0
number_of (Int n) = n

-- what an answer says that the state is, as a number
abbrev pub number_in : Outcome → ℤ
number_in (Value held) = number_of held
number_in (Failed _) = pos 0

-- one more than a number
abbrev pub next_number : ℤ → ℤ
next_number n = saturate_signed w64 (n +ℤ pos 1)

-- twice a number; null stays
abbrev pub doubled : Val → Val
doubled Null = Null
doubled (Int n) = Int (saturate_signed w64 (n *ℤ pos 2))

abbrev pub is_negative_val : Val → Bool
is_negative_val Null = false
is_negative_val (Int n) = is_negative n

-- 3 divides the number
abbrev pub is_third : ℤ → Bool
is_third n = unsigned_abs n % 3 == 0

-- the latest of some answers
abbrev pub latest : List Outcome → Option Outcome
latest answers = slice_get answers (length answers - 1)

-- ---- bodies that return or fail at once

abbrev pub unit_act : Frame → Act
unit_act _ = Return Null

abbrev pub zero_act : Frame → Act
zero_act _ = Return (Int (pos 0))

abbrev pub echo_act : Frame → Act
echo_act frame = Return frame.argument

abbrev pub short_act : Frame → Act
short_act _ = Return (Int (negsuc 0))

abbrev pub boom_act : Frame → Act
boom_act _ = Fail (User 9)

-- ---- bodies of what an instance holds

-- loads, stores one more than what was held, and returns that
abbrev pub counting : List Outcome → Act
counting [] = Load
counting (held ∷ []) = Store (Int (next_number (number_in held)))
counting (held ∷ stored ∷ later) = Return (Int (next_number (number_in held)))

abbrev pub count_act : Frame → Act
count_act frame = counting frame.answers.items

-- a number that 3 divides is returned
abbrev pub returning_thirds : ℤ → Act
returning_thirds n = if is_third n then Return (Int n) else Fail (User 3)

-- loads, stores one more than what was held, and returns that where 3 divides it
abbrev pub counting_thirds : List Outcome → Act
counting_thirds [] = Load
counting_thirds (held ∷ []) = Store (Int (next_number (number_in held)))
counting_thirds (held ∷ stored ∷ later) = returning_thirds (next_number (number_in held))

abbrev pub flaky_act : Frame → Act
flaky_act frame = counting_thirds frame.answers.items

abbrev pub spin_act : Frame → Act
spin_act _ = Load

-- ---- bodies of sites: one site an answer, in order

-- calls the next site with this, or returns it behind the last
abbrev pub call_next : Frame → Val → Act
call_next frame given =
    if nat_lt (length frame.answers.items) frame.calls then Call (length frame.answers.items) given else Return given

-- the first site is given the argument, each later one the answer before; a failed answer ends it
abbrev pub relaying : Frame → Option Outcome → Act
relaying frame None = call_next frame frame.argument
relaying frame (Some (Value given)) = call_next frame given
relaying frame (Some (Failed failure)) = Fail failure

abbrev pub relay_act : Frame → Act
relay_act frame = relaying frame (latest frame.answers.items)

-- fires at the next site with the argument, or returns it behind the last
abbrev pub fire_next : Frame → Act
fire_next frame =
    if nat_lt (length frame.answers.items) frame.fires then Fire (length frame.answers.items) frame.argument
    else Return frame.argument

-- each site is given the argument; a failed answer ends it
abbrev pub notifying : Frame → Option Outcome → Act
notifying frame None = fire_next frame
notifying frame (Some (Value _)) = fire_next frame
notifying frame (Some (Failed failure)) = Fail failure

abbrev pub notify_act : Frame → Act
notify_act frame = notifying frame (latest frame.answers.items)

-- ---- bodies that proceed, with the argument

-- returns the value of the answer, or fails with its failure
abbrev pub passing : Frame → Option Outcome → Act
passing frame None = Proceed frame.argument
passing frame (Some (Value value)) = Return value
passing frame (Some (Failed failure)) = Fail failure

abbrev pub pass_act : Frame → Act
pass_act frame = passing frame (latest frame.answers.items)

-- the same, with a number doubled
abbrev pub doubling : Frame → Option Outcome → Act
doubling frame None = Proceed frame.argument
doubling frame (Some (Value value)) = Return (doubled value)
doubling frame (Some (Failed failure)) = Fail failure

abbrev pub double_act : Frame → Act
double_act frame = doubling frame (latest frame.answers.items)

-- fails where the argument is negative
abbrev pub guard_act : Frame → Act
guard_act frame = if is_negative_val frame.argument then Fail (User 1) else pass_act frame

-- proceeds until a value comes, which it returns, at most three times; then it fails with the third failure
abbrev pub retrying : Frame → Option Outcome → Act
retrying frame None = Proceed frame.argument
retrying frame (Some (Value value)) = Return value
retrying frame (Some (Failed failure)) =
    if nat_lt (length frame.answers.items) 3 then Proceed frame.argument else Fail failure

abbrev pub retry_act : Frame → Act
retry_act frame = retrying frame (latest frame.answers.items)

-- returns the value of the answer, or null for a failure
abbrev pub swallowing : Frame → Option Outcome → Act
swallowing frame None = Proceed frame.argument
swallowing frame (Some (Value value)) = Return value
swallowing frame (Some (Failed _)) = Return Null

abbrev pub swallow_act : Frame → Act
swallow_act frame = swallowing frame (latest frame.answers.items)
