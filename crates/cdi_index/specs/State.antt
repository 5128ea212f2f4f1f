-- What is seen of an index.
use Rattle.std.specs.Prelude.{◌≡◌, List, [], ◌∷◌, ◌++◌, Option, Some, None, option_map}
use Rattle.cdi_model.specs.declared.decl.Decl.{Decl}
use Rattle.cdi_model.specs.declared.edit.Edit.{Edit}
use Rattle.cdi_model.specs.declared.key.DeclKey.{DeclKey}
use Rattle.cdi_model.specs.DeclList.{AreDistinct}
use Rattle.cdi_model.specs.Edits.{edited, edited_all, edited_key, edited_keys}
use Rattle.cdi_postings.specs.Listing.{Listing}
use Rattle.cdi_index.specs.Counted.{counted}
use Rattle.cdi_index.specs.declared.counts.Counts.{Counts}
use Rattle.cdi_index.specs.declared.prepare.Next.{Next}
use Rattle.cdi_index.specs.declared.shelf.Shelf.{Shelf}
use Rattle.cdi_index.specs.Kept.{stored, IsExact, IsFreeFrom, IsShelf, IsSound}
use Rattle.cdi_index.specs.Next.{IsNext}
use Rattle.cdi_index.specs.Numbers.{AreNumbered}
use Rattle.cdi_index.specs.Replaced.{AreReplaced}
use Rattle.indexmap.specs.IndexMap.{get}
use Rattle.cdi_model.specs.DeclKey.{same_key}

-- ---- drafts

-- the declarations that some edits lead to, and the kinds and names of these
pub record Drafted : Type 0 where
  pub decls : List Decl
  pub keys : List DeclKey

-- no edit yet
abbrev pub drafted_from : List Decl → Drafted
drafted_from ds = record { decls = ds; keys = [] }

-- one edit more
abbrev pub drafted : Drafted → Edit → Drafted
drafted draft edit = record { decls = edited draft.decls edit; keys = draft.keys ++ edited_key edit ∷ [] }

-- Some edits lead from these declarations to those of a draft, and are of its kinds and names.
pub record IsEdited (ds : List Decl) (draft : Drafted) : Type 0 where
  pub edits : List Edit
  pub decls : draft.decls ≡ edited_all ds edits
  pub keys : draft.keys ≡ edited_keys edits

-- ---- an index

-- what is taken over at the next commit
pub record Staged : Type 0 where
  pub decls : List Decl
  pub counts : Counts

pub record State : Type 0 where
  pub decls : List Decl
  -- how many records were computed
  pub counts : Counts
  pub staged : Option Staged

abbrev pub empty : State
empty = record { decls = []; counts = record { closures = 0; beans = 0 }; staged = None }

abbrev pub with_staged : State → Option Staged → State
with_staged state staged = record state { staged = staged }

-- what a draft stages
abbrev pub staged_by : State → Drafted → Staged
staged_by state draft = record { decls = draft.decls; counts = counted state.counts state.decls draft.decls draft.keys }

-- what is staged is taken over, if anything is
abbrev pub committed_to : State → Option Staged → State
committed_to state None = state
committed_to state (Some next) = record { decls = next.decls; counts = next.counts; staged = None }

abbrev pub committed : State → State
committed state = committed_to state state.staged

-- ---- as it is kept

abbrev pub seen_next : Next → Staged
seen_next next = record { decls = next.decls; counts = next.counts }

abbrev pub seen : List Decl → Counts → Option Next → State
seen ds counts next = record { decls = ds; counts = counts; staged = option_map seen_next next }

abbrev pub MayBeNext : Shelf → List Listing → Option Next → Type 0
MayBeNext shelf listings None = Unit {0}
MayBeNext shelf listings (Some next) = IsNext shelf listings next

-- What is kept is exact, each slot is listed under its words, and what is staged is prepared.
pub record IsIndex (ds : List Decl) (shelf : Shelf) (listings : List Listing) (next : Option Next) : Type 0 where
  pub distinct : AreDistinct ds
  pub shelved : IsShelf shelf
  pub free : IsFreeFrom shelf.given shelf
  pub exact : IsExact ds (stored shelf)
  pub sound : IsSound (stored shelf) listings
  pub numbered : AreNumbered ds shelf.numbered (stored shelf)
  pub replaced : AreReplaced ds (get same_key shelf.replaced)
  pub staged : MayBeNext shelf listings next
