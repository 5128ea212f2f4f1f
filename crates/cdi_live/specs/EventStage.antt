-- Which kept events stay after edits.
use Rattle.std.specs.Prelude.{◌≡◌, ℕ, Bool, true, not, ◌&&◌, List}
use Rattle.cdi_model.specs.declared.decl.Decl.{Decl}
use Rattle.cdi_model.specs.declared.quals.Qual.{Qual}
use Rattle.cdi_observe.specs.Keys.{EventKey}
use Rattle.cdi_observe.specs.Wanted.{is_wanted}
use Rattle.cdi_seen.specs.Touched.{is_touched}
use Rattle.cdi_live.specs.EventCompared.{Events}
use Rattle.cdi_live.specs.EventDropped.{is_kept}
use Rattle.cdi_live.specs.Gone.{is_gone}
use Rattle.cdi_live.specs.declared.gone.Gone.{Gone}

-- a kept event is kept after edits where a body may fire it still, and it sees the same
abbrev pub event_stays : List Decl → List Decl → List ℕ → List Qual → Bool
event_stays ds es t us = is_wanted es (EventKey t us) && not (is_touched ds es (EventKey t us))

-- A body may fire each kept event.
abbrev pub EventsAreWanted : List Decl → Events → Type 0
EventsAreWanted ds m = (t : List ℕ) (us : List Qual) → is_kept m t us ≡ true → is_wanted ds (EventKey t us) ≡ true

-- Of the kept events exactly those that do not stay are gone.
abbrev pub EventsAreGone : List Decl → List Decl → Events → List Gone → Type 0
EventsAreGone ds es m list = (t : List ℕ) (us : List Qual) → is_kept m t us ≡ true → is_gone list t us ≡ not (event_stays ds es t us)
