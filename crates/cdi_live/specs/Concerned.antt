-- Which declarations are to be looked at again after a draft, where answers are kept.
use Rattle.std.specs.Prelude.{◌≡◌, ℕ, true, false, List}
use Rattle.cdi_model.specs.declared.decl.Decl.{Decl}
use Rattle.cdi_model.specs.declared.key.DeclKey.{DeclKey}
use Rattle.cdi_model.specs.declared.place.BeanPlace.{BeanPlace}
use Rattle.cdi_model.specs.declared.quals.Qual.{Qual}
use Rattle.cdi_model.specs.Edits.{is_among}
use Rattle.cdi_match.specs.Chain.{has}
use Rattle.cdi_index.specs.State.{Drafted}
use Rattle.cdi_index.specs.Told.{Tells}
use Rattle.cdi_observe.specs.Keys.{ChainKey, ChoiceKey, EventKey}
use Rattle.cdi_seen.specs.Touched.{still_known}
use Rattle.cdi_concern.specs.Concern.{is_concerned}
use Rattle.cdi_concern.specs.declared.moved.Moved.{Moved}
use Rattle.cdi_live.specs.ChainGone.{is_gone_chain}
use Rattle.cdi_live.specs.Gone.{is_gone}
use Rattle.cdi_live.specs.State.{knows, State}
use Rattle.cdi_live.specs.declared.memos.Going.{Going}

-- So much is moved by a draft of declarations whose answers are kept: its edits, the declarations that it affects, and the types and classes
-- of all known keys that it gives up.
pub record IsMoved (old : State) (draft : Drafted) (m : Moved) : Type 0 where
  pub edited : m.edited.now ≡ draft.keys
  pub tells : Tells old.decls draft.decls draft.keys m.affected.now
  pub types : (t : List ℕ) (us : List Qual) → knows old (ChoiceKey t us) ≡ true
      → still_known old.decls draft.decls (knows old) (ChoiceKey t us) ≡ false → has m.types.now t ≡ true
  pub events : (t : List ℕ) (us : List Qual) → knows old (EventKey t us) ≡ true
      → still_known old.decls draft.decls (knows old) (EventKey t us) ≡ false → has m.events.now t ≡ true
  pub classes : (class : List ℕ) (place : BeanPlace) → knows old (ChainKey class place) ≡ true
      → still_known old.decls draft.decls (knows old) (ChainKey class place) ≡ false → has m.classes.now class ≡ true

-- These are the kinds and names of the declarations that are to be looked at again after the draft.
pub record Concerns (old : State) (draft : Drafted) (found : List DeclKey) : Type 0 where
  pub moved : Moved
  pub by : IsMoved old draft moved
  pub keys : (k : DeclKey) → is_among found k ≡ is_concerned old.decls moved k

-- ---- as it is found

-- The types and classes of the kept answers that go are moved.
pub record AreMoved (going : Going) (m : Moved) : Type 0 where
  pub types : (t : List ℕ) (us : List Qual) → is_gone going.choices.items t us ≡ true → has m.types.now t ≡ true
  pub events : (t : List ℕ) (us : List Qual) → is_gone going.events.items t us ≡ true → has m.events.now t ≡ true
  pub classes : (class : List ℕ) (place : BeanPlace) → is_gone_chain going.chains.items class place ≡ true → has m.classes.now class ≡ true

-- These are the kinds and names of the declarations that are to be looked at again where some are edited, some are affected, and some
-- kept answers go.
pub record AreConcerned (ds : List Decl) (edited affected : List DeclKey) (going : Going) (found : List DeclKey) : Type 0 where
  pub moved : Moved
  pub edits : moved.edited.now ≡ edited
  pub affects : moved.affected.now ≡ affected
  pub gives_up : AreMoved going moved
  pub keys : (k : DeclKey) → is_among found k ≡ is_concerned ds moved k
