-- The answers that are kept, as they are, and which of them go after edits.
use Rattle.std.specs.Prelude.{◌≡◌, ℕ, List, [], None, if◌then◌else◌}
use Rattle.cdi_model.specs.declared.decl.Decl.{Decl}
use Rattle.cdi_model.specs.declared.place.BeanPlace.{BeanPlace}
use Rattle.cdi_model.specs.declared.quals.Qual.{Qual}
use Rattle.cdi_model.specs.DeclList.{AreDistinct}
use Rattle.cdi_model.specs.SameUse.{same_quals}
use Rattle.cdi_memo.specs.Answers.{answer}
use Rattle.cdi_observe.specs.Keys.{same_place}
use Rattle.cdi_live.specs.ChainGone.{is_gone_chain, AreGoneChains, ArePlaces}
use Rattle.cdi_live.specs.EventStage.{EventsAreGone, EventsAreWanted}
use Rattle.cdi_live.specs.Gone.{is_gone}
use Rattle.cdi_live.specs.Stage.{AreGone, AreWanted}
use Rattle.cdi_live.specs.declared.memos.Going.{Going}
use Rattle.cdi_live.specs.declared.memos.Memos.{Memos}

abbrev pub no_answers : Memos
no_answers = record { choices = []; chains = []; events = [] }

-- Some answers are kept no more, and all others stay.
pub record Forgets (old : Memos) (going : Going) (new : Memos) : Type 0 where
  pub choices : (t : List ℕ) (us : List Qual) → answer same_quals new.choices t us
      ≡ (if is_gone going.choices.items t us then None else answer same_quals old.choices t us)
  pub chains : (class : List ℕ) (place : BeanPlace) → answer same_place new.chains class place
      ≡ (if is_gone_chain going.chains.items class place then None else answer same_place old.chains class place)
  pub events : (t : List ℕ) (us : List Qual) → answer same_quals new.events t us
      ≡ (if is_gone going.events.items t us then None else answer same_quals old.events t us)

-- A declaration asks for each.
pub record AreAsked (ds : List Decl) (memos : Memos) : Type 0 where
  pub choices : AreWanted ds memos.choices
  pub chains : ArePlaces ds memos.chains
  pub events : EventsAreWanted ds memos.events

-- Of the kept answers exactly those go after edits that are not wanted any more, or are touched.
pub record AreGoing (ds es : List Decl) (memos : Memos) (going : Going) : Type 0 where
  pub choices : AreGone ds es memos.choices going.choices.items
  pub chains : AreGoneChains ds es memos.chains going.chains.items
  pub events : EventsAreGone ds es memos.events going.events.items
  pub distinct : AreDistinct es
