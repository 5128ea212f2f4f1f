-- The known keys of declarations whose answers are kept.
use Rattle.std.specs.Prelude.{◌≡◌, true, filter, List}
use Rattle.cdi_observe.specs.Keys.{Key}
use Rattle.cdi_observe.specs.Wanted.{is_wanted, wanted}
use Rattle.cdi_live.specs.State.{knows, State}

-- the known keys, in the order in which the declarations ask for them
abbrev pub known_of : State → List Key
known_of state = filter (knows state) (wanted state.decls)

-- Each known key is wanted.
abbrev pub KnownAreWanted : State → Type 0
KnownAreWanted state = (key : Key) → knows state key ≡ true → is_wanted state.decls key ≡ true
