-- What is kept of declarations by slots, before a commit and after it.
use Rattle.std.specs.Prelude.{◌≡◌, ℕ, nat_lt, ◌-◌, List, Option, Some, None, option_map, if◌then◌else◌, slice_get}
use Rattle.std.specs.List.{list_any}
use Rattle.cdi_model.specs.declared.key.DeclKey.{DeclKey}
use Rattle.cdi_model.specs.DeclKey.{same_key}
use Rattle.cdi_index.specs.declared.change.Change.{Change}
use Rattle.cdi_index.specs.declared.prepare.Next.{Next}
use Rattle.cdi_index.specs.declared.shelf.Entry.{Entry}
use Rattle.cdi_index.specs.declared.shelf.Kept.{Kept}
use Rattle.cdi_index.specs.declared.shelf.Shelf.{Shelf}
use Rattle.cdi_index.specs.Kept.{kept_at, Stored}

abbrev pub entry_kept : Entry → Kept
entry_kept e = record { key = e.key.now; number = e.number; made = e.made.now }

-- What is kept of a declaration is at its slot, and what is at a slot is kept of a declaration.
pub record AreAtSlots (m : DeclKey → Option Stored) (kept : ℕ → Option Kept) : Type 0 where
  pub there : (k : DeclKey) (s : ℕ) (e : Kept) → m k ≡ Some (s, e) → (kept s ≡ Some e) × (e.key ≡ k)
  pub owned : (s : ℕ) (e : Kept) → kept s ≡ Some e → m e.key ≡ Some (s, e)

-- ---- after changes

-- what is kept of a change
abbrev pub kept_of : Change → Option Kept
kept_of c = option_map (λ made. record { key = c.key; number = c.number; made = made }) c.made

abbrev pub kept_of_one : Option Change → Option Kept
kept_of_one None = None
kept_of_one (Some c) = kept_of c

-- what is kept of a declaration, where it has none of some keys
abbrev pub unless_among : List DeclKey → Option Kept → Option Kept
unless_among keys None = None
unless_among keys (Some e) = if list_any (same_key e.key) keys then None else Some e

-- what is kept at a slot after some changes of declarations of some keys, whose slots are numbered from n on
abbrev pub kept_after : ℕ → List Change → List DeclKey → (ℕ → Option Kept) → ℕ → Option Kept
kept_after n cs keys kept s = if nat_lt s n then unless_among keys (kept s) else kept_of_one (slice_get cs (s - n))

-- what is kept at a slot after the next commit
abbrev pub kept_next : Shelf → Next → ℕ → Option Kept
kept_next shelf next s = kept_after next.first next.changes.items next.affected.keys (kept_at shelf) s
