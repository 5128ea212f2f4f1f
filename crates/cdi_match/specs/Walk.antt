-- The search for declared names that chains lead to, which keeps positions of declarations.
use Rattle.std.specs.Prelude.{◌≡◌, ◌+◌, ℕ, Bool, true, false, not, List, [], ◌∷◌, length, flat_map}
use Rattle.std.specs.Prelude.{Option, Some, None, option_map}
use Rattle.std.specs.Prelude.{position, slice_get}
use Rattle.std.specs.List.{filter}
use Rattle.std.specs.Option.{option_to_list}
use Rattle.cdi_positions.specs.Marks.{is_marked, marked_count, marked_from}
use Rattle.cdi_model.specs.Decl.{name_of_decl}
use Rattle.cdi_model.specs.DeclList.{is_of, limit}
use Rattle.cdi_model.specs.declared.decl.Decl.{Decl}
use Rattle.cdi_match.specs.declared.followers.Links.{Links}
use Rattle.cdi_match.specs.declared.walk.Walk.{Walk}
use Rattle.cdi_match.specs.Chain.{has, leads}
use Rattle.cdi_match.specs.Search.{Adds, Closing, kind_of, next_of}

-- the position is marked, if there is one
abbrev pub has_mark : List Bool → Option ℕ → Bool
has_mark marks None = false
has_mark marks (Some i) = is_marked marks i

-- a walk has found the declaration of a name
abbrev pub has_met : Links → List Decl → Walk → List ℕ → Bool
has_met which ds w name = has_mark w.marks (position (is_of (kind_of which) name) ds)

-- the names of the declarations at some positions
abbrev pub names_at : List Decl → List ℕ → List (List ℕ)
names_at ds positions = flat_map (λ p. option_to_list (option_map name_of_decl (slice_get ds p))) positions

-- the names of those that are left to be taken
abbrev pub names_left : List Decl → Walk → List (List ℕ)
names_left ds w = names_at ds (marked_from 0 w.left)

-- there is a name
abbrev pub has_some : List (List ℕ) → Bool
has_some [] = false
has_some (name ∷ names) = true

-- a name is declared, and its declaration lists some names
abbrev pub is_listing : Links → List Decl → List ℕ → Bool
is_listing which ds name = has_some (next_of which ds name)

-- those of some names whose declarations do
abbrev pub listing_among : Links → List Decl → List (List ℕ) → List (List ℕ)
listing_among which ds names = filter (is_listing which ds) names

-- those that follow a name
abbrev pub next_listing : Links → List Decl → List ℕ → List (List ℕ)
next_listing which ds name = listing_among which ds (next_of which ds name)

-- a walk from these names, as far as their declarations list some
abbrev pub IsWalking : Links → List Decl → List (List ℕ) → Walk → Type 0
IsWalking which ds starts w =
    Closing (next_listing which ds) (listing_among which ds starts) (has_met which ds w) (names_left ds w)

-- how many declarations are left to be taken, or not found
abbrev pub tasks : Walk → ℕ
tasks w = marked_count w.left + length (filter not w.marks)

-- there is a mark for each position, and only what was found is left
pub record HasMarks (w : Walk) : Type 0 where
  pub sized : length w.marks ≡ limit
  pub left_sized : length w.left ≡ limit
  pub within : (i : ℕ) → is_marked w.left i ≡ true → is_marked w.marks i ≡ true

-- a name of the kind is declared at each position that is marked
abbrev pub HasNames : Links → List Decl → Walk → Type 0
HasNames which ds w = (i : ℕ) → is_marked w.marks i ≡ true → (name : List ℕ) × (position (is_of (kind_of which) name) ds ≡ Some i)

-- none is left to be taken
abbrev pub has_none_left : Walk → Type 0
has_none_left w = marked_count w.left ≡ 0

-- the declarations of some names were found, and those that are new are left to be taken
pub record Meets (which : Links) (ds : List Decl) (names : List (List ℕ)) (old new : Walk) : Type 0 where
  pub adds : Adds (listing_among which ds names) (has_met which ds old) (names_left ds old) (has_met which ds new)
      (names_left ds new)
  pub kept : HasMarks old → HasMarks new
  pub named : HasNames which ds old → HasNames which ds new
  pub same_tasks : tasks new ≡ tasks old

-- Told are the starts, and the names that follow those whose declarations a walk has taken.
pub record Told (which : Links) (ds : List Decl) (starts : List (List ℕ)) (w : Walk) (told : List ℕ → Bool) : Type 0 where
  pub begun : (s : List ℕ) → has starts s ≡ true → told s ≡ true
  pub closed : (x s : List ℕ) → has_met which ds w x ≡ true → has (names_left ds w) x ≡ false → leads (next_of which ds) x s ≡ true
      → told s ≡ true

-- some names more are to be told
abbrev pub TellsMore : Links → List Decl → List (List ℕ) → Walk → Walk → Type 0
TellsMore which ds names old new = (starts : List (List ℕ)) (told told' : List ℕ → Bool) → Told which ds starts old told
    → ((s : List ℕ) → told s ≡ true → told' s ≡ true) → ((s : List ℕ) → has names s ≡ true → told' s ≡ true)
    → Told which ds starts new told'
