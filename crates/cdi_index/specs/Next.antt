-- What is prepared of a draft.
use Rattle.std.specs.Prelude.{◌≡◌, ◌≤◌, ◌<◌, ℕ, suc, ◌+◌, ◌^◌, Bool, cond, ◌&&◌, List, [], ◌∷◌, length, Option, is_some, option_map}
use Rattle.std.specs.List.{IsDistinct}
use Rattle.indexmap.specs.IndexMap.{get, spare}
use Rattle.cdi_model.specs.declared.decl.Decl.{Decl}
use Rattle.cdi_model.specs.declared.decl.Kind.{Kind}
use Rattle.cdi_model.specs.declared.key.DeclKey.{DeclKey}
use Rattle.cdi_model.specs.DeclKey.{same_key}
use Rattle.cdi_model.specs.DeclList.{AreDistinct}
use Rattle.cdi_postings.specs.Listing.{Listing}
use Rattle.cdi_index.specs.declared.change.Change.{Change}
use Rattle.cdi_index.specs.declared.prepare.Next.{Next}
use Rattle.cdi_index.specs.declared.shelf.Shelf.{Shelf}
use Rattle.cdi_index.specs.Counted.{is_of_kind}
use Rattle.cdi_index.specs.Kept.{Stored, stored, IsExact, IsFreeFrom, IsSound}
use Rattle.cdi_index.specs.Made.{made_of}
use Rattle.cdi_index.specs.Numbers.{AreNumbered}
use Rattle.cdi_index.specs.Slots.{kept_next, kept_of, AreAtSlots}
use Rattle.cdi_index.specs.Replaced.{keys_changed, keys_turned, turned as turned_by, AreReplaced}

-- the change of a declaration, by the numbers of all
abbrev pub change_of : List Decl → (DeclKey → ℕ) → DeclKey → Change
change_of ds numbers k = record { key = k; number = numbers k; made = made_of ds k }

-- the change is of the kind, and something was made
abbrev pub is_made : Kind → Change → Bool
is_made kind c = is_of_kind kind c.key && is_some c.made

-- what is kept at the slot n where this is made
abbrev pub stored_as : ℕ → Change → Option Stored
stored_as n c = option_map (λ e. (n, e)) (kept_of c)

-- what is kept of each declaration after some changes, whose slots are numbered from n on
abbrev pub applied : ℕ → List Change → (DeclKey → Option Stored) → DeclKey → Option Stored
applied n [] m k = m k
applied n (c ∷ cs) m k = cond (same_key c.key k) (stored_as n c) (applied (suc n) cs m k)

-- What is prepared: after the changes what is kept is exact, and each slot is listed under its words; after the turns the records of replaced
-- beans are exact. The changes and the turns are found by their keys. The slots of the changes are free, and there is room.
pub record IsNext (shelf : Shelf) (listings : List Listing) (next : Next) : Type 0 where
  pub distinct : AreDistinct next.decls
  pub exact : IsExact next.decls (applied next.first next.changes.items (stored shelf))
  pub sound : IsSound (applied next.first next.changes.items (stored shelf)) listings
  pub free : IsFreeFrom next.first shelf
  pub numbers : next.first + length next.changes.items < 2 ^ 64
  pub slots : length next.changes.items ≤ spare shelf.slots
  pub kept : length next.changes.items ≤ spare shelf.kept
  pub affected : keys_changed next.changes.items ≡ next.affected.keys
  pub once : IsDistinct same_key next.affected.keys
  pub numbered : AreNumbered next.decls next.numbered (applied next.first next.changes.items (stored shelf))
  pub turned : AreReplaced next.decls (turned_by next.turns.list.items (get same_key shelf.replaced))
  pub replaced : length next.turns.list.items ≤ spare shelf.replaced
  pub beans : keys_turned next.turns.list.items ≡ next.turns.beans.keys

-- After the changes what is kept is exact and at its slots, which are listed under its words, and after the turns the records of replaced
-- beans are. Both are found by their keys.
pub record IsAfter (shelf : Shelf) (listings : List Listing) (next : Next) : Type 0 where
  pub distinct : AreDistinct next.decls
  pub exact : IsExact next.decls (applied next.first next.changes.items (stored shelf))
  pub sound : IsSound (applied next.first next.changes.items (stored shelf)) listings
  pub at : AreAtSlots (applied next.first next.changes.items (stored shelf)) (kept_next shelf next)
  pub numbered : AreNumbered next.decls next.numbered (applied next.first next.changes.items (stored shelf))
  pub affected : keys_changed next.changes.items ≡ next.affected.keys
  pub turned : AreReplaced next.decls (turned_by next.turns.list.items (get same_key shelf.replaced))
  pub beans : keys_turned next.turns.list.items ≡ next.turns.beans.keys
