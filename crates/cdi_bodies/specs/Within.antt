-- Which acts a promise covers, on the frame that was shown.
use Rattle.std.specs.Prelude.{◌≡◌, ◌==◌, ℕ, ◌<◌, Bool}
use native.Mathlib.Nat.{ℕ_set}
use Rattle.std.proofs.Math.Bridge.{le_prop}
use Rattle.std.specs.Int.RustNames.{bit_and}
use Rattle.cdi_bodies.specs.Flags as flags
use Rattle.cdi_bodies.specs.declared.act.Act.{Act}
use Rattle.cdi_bodies.specs.declared.act.Act.TheVariants.{Load, Store, Call, Fire, Proceed, Return, Fail}
use Rattle.cdi_bodies.specs.declared.act.Frame.{Frame}
use Rattle.cdi_bodies.specs.declared.promise.Promise.{Promise}

-- the promise has this flag, or all of these
abbrev pub Has : Promise → ℕ → Type 0
Has promise flag = bit_and promise.0 flag ≡ flag

-- the act is promised, and its site is one of so many call and fire sites
abbrev pub Covers : Promise → ℕ → ℕ → Act → Type 0
Covers promise calls fires Load = Has promise flags.load
Covers promise calls fires (Store _) = Has promise flags.store
Covers promise calls fires (Call site _) = Has promise flags.call × (site < calls)
Covers promise calls fires (Fire site _) = Has promise flags.fire × (site < fires)
Covers promise calls fires (Proceed _) = Has promise flags.proceed
Covers promise calls fires (Return _) = Unit {0}
Covers promise calls fires (Fail _) = Has promise flags.fail

-- the same, at the sites of the frame that was shown
abbrev pub IsWithin : Promise → Frame → Act → Type 0
IsWithin promise frame act = Covers promise frame.calls frame.fires act

-- each flag of the promise is one of those that are allowed
abbrev pub IsAllowed : Promise → Promise → Type 0
IsAllowed promise allowed = (flag : ℕ) → Has promise flag → Has allowed flag

-- the same of the flags that are allowed, as a test
abbrev pub keeps_to : Promise → ℕ → Bool
keeps_to promise allowed = bit_and allowed promise.0 == promise.0

-- each act that the promise covers, the other does
abbrev pub CoversNoMore : Promise → Promise → Type 0
CoversNoMore promise allowed = (calls fires : ℕ) (act : Act) → Covers promise calls fires act → Covers allowed calls fires act

-- there is at most one proof of it
pub IsWithin-prop : (promise : Promise) (frame : Frame) (act : Act) → IsProp (IsWithin promise frame act)
IsWithin-prop promise frame Load = hlevel ℕ_set
IsWithin-prop promise frame (Store _) = hlevel ℕ_set
IsWithin-prop promise frame (Call site _) = hlevel (ℕ_set, le_prop)
IsWithin-prop promise frame (Fire site _) = hlevel (ℕ_set, le_prop)
IsWithin-prop promise frame (Proceed _) = hlevel ℕ_set
IsWithin-prop promise frame (Return _) = hlevel
IsWithin-prop promise frame (Fail _) = hlevel ℕ_set
