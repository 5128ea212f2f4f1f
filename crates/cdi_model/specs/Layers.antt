-- A list of declarations in layers: what is kept of a base, some of it replaced, and what was added after it.
use Rattle.std.specs.Prelude.{◌≡◌, ◌≤◌, ℕ, nat_eq, Bool, true, if◌then◌else◌, List, [], ◌∷◌, length, map, slice_set, Option, Some, None}
use Rattle.std.specs.List.{AllByRecursion, IsDistinct}
use Rattle.std.specs.declared.rc.Rc.{Rc}
use Rattle.std.specs.declared.alloc.Global.{Global}
use Rattle.cdi_positions.specs.Marks as positions
use Rattle.cdi_positions.specs.Marks.{is_marked}
use Rattle.cdi_model.specs.Decl.{key_of}
use Rattle.cdi_model.specs.DeclKey.{same_key}
use Rattle.cdi_model.specs.DeclList.{limit}
use Rattle.cdi_model.specs.declared.decl.Decl.{Decl}
use Rattle.cdi_model.specs.declared.kept.Replaced.{Replaced}
use Rattle.cdi_model.specs.declared.key.DeclKey.{DeclKey}

-- the declarations that are shared
abbrev pub shared_in : List (Rc Decl Global) → List Decl
shared_in list = map (λ d. d.value) list

-- the declarations after some were replaced: the first of a place stands there
abbrev pub changed_by : List Replaced → List Decl → List Decl
changed_by [] ds = ds
changed_by (r ∷ rs) ds = slice_set (changed_by rs ds) r.place r.decl.value

-- the declarations of which the place is not marked
abbrev pub kept : List Bool → List Decl → List Decl
kept [] ds = ds
kept (m ∷ ms) [] = []
kept (m ∷ ms) (d ∷ ds) = if m then kept ms ds else d ∷ kept ms ds

-- it stands at a place
abbrev pub is_at : ℕ → Replaced → Bool
is_at place r = nat_eq r.place place

-- a place that is not marked
abbrev pub unmarked : List Bool → Option ℕ → Option ℕ
unmarked marks None = None
unmarked marks (Some place) = if is_marked marks place then None else Some place

-- each place at which a declaration was replaced is marked
abbrev pub AreMarked : List Bool → List Replaced → Type 0
AreMarked marks rs = AllByRecursion (λ r. is_marked marks r.place ≡ true) rs

-- their keys
abbrev pub keys_in : List Decl → List DeclKey
keys_in ds = map key_of ds

-- no two have one key, and there are at most as many as the limit says
pub record AreListed (ds : List Decl) : Type 0 where
  pub distinct : IsDistinct same_key (keys_in ds)
  pub count : length ds ≤ limit

-- what is kept of a base: the places of what is gone and of what was replaced have marks, and what stands at a place has its key
pub record AreKept (base : List Decl) (gone changed : List Bool) (rs : List Replaced) : Type 0 where
  pub listed : AreListed base
  pub gone_size : length gone ≡ positions.limit
  pub changed_size : length changed ≡ positions.limit
  pub marked : AreMarked changed rs
  pub alike : keys_in (changed_by rs base) ≡ keys_in base
