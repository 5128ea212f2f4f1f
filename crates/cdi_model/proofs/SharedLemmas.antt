-- Declarations that are shared, looked through one after another.
use Rattle.cdi_model.proofs.Common.{◌≡◌, ℕ, zero, suc, List, [], ◌∷◌, ◌++◌, Option, Some, None, is_some, Global, refl, sym, ap, ◌∙◌}
use Rattle.cdi_model.proofs.Common.{position, slice_set, remove, Rc, position-map, kind_of, name_of_decl, key_at, find_decl, is_of, put_in}
use Rattle.cdi_model.proofs.Common.{remove_from, shared_in, Decl, Kind}
use Rattle.std.proofs.lemmas.List.{map-set, map-append}
use Rattle.cdi_model.proofs.KeptLemmas.{has_key, none_removed, put_stands, put_nowhere, remove_stands}
use Rattle.cdi_model.proofs.PlaceLemmas.{First, First-position, Nowhere, Nowhere-position}
use Rattle.cdi_model.proofs.PositionLemmas.{position-found}

-- the first among them of a kind and name
abbrev pub place_among : Kind → List ℕ → List (Rc Decl Global) → Option ℕ
place_among kind name list = position (λ d. is_of kind name d.value) list

-- with the same kind, name and list it is the same
pub same-place : (k kind : Kind) (n name : List ℕ) (slice list : List (Rc Decl Global)) (o : Option ℕ) → k ≡ kind → n ≡ name → slice ≡ list
    → o ≡ place_among k n slice → o ≡ place_among kind name list
same-place k kind n name slice list o a b e at = at ∙ (λ i. place_among (a i) (b i) (e i))

pub position-shared : (kind : Kind) (name : List ℕ) (list : List (Rc Decl Global))
    → place_among kind name list ≡ position (is_of kind name) (shared_in list)
position-shared kind name list = sym (position-map (λ (d : Rc Decl Global). d.value) (is_of kind name) list)

first : (kind : Kind) (name : List ℕ) (list : List (Rc Decl Global)) (i : ℕ) → place_among kind name list ≡ Some i
    → First (has_key (key_at kind name)) i (shared_in list)
first kind name list i at = First-position (has_key (key_at kind name)) (shared_in list) i (sym (position-shared kind name list) ∙ at)

nowhere : (kind : Kind) (name : List ℕ) (list : List (Rc Decl Global)) → place_among kind name list ≡ None
    → Nowhere (has_key (key_at kind name)) (shared_in list)
nowhere kind name list none = Nowhere-position (has_key (key_at kind name)) (shared_in list) (sym (position-shared kind name list) ∙ none)

-- one of its kind and name is put in the place of the first
pub shared-put : (d : Rc Decl Global) (list : List (Rc Decl Global)) (i : ℕ)
    → place_among (kind_of d.value) (name_of_decl d.value) list ≡ Some i
    → shared_in (slice_set list i d) ≡ put_in (shared_in list) d.value
shared-put d list i at = map-set (λ (e : Rc Decl Global). e.value) list i d
    ∙ put_stands d.value (shared_in list) i (first (kind_of d.value) (name_of_decl d.value) list i at)

-- and behind them where there is none
pub shared-more : (d : Rc Decl Global) (list : List (Rc Decl Global))
    → place_among (kind_of d.value) (name_of_decl d.value) list ≡ None → shared_in (list ++ d ∷ []) ≡ put_in (shared_in list) d.value
shared-more d list none = map-append (λ (e : Rc Decl Global). e.value) list (d ∷ [])
    ∙ sym (put_nowhere d.value (shared_in list) (nowhere (kind_of d.value) (name_of_decl d.value) list none))

pub shared-found : (kind : Kind) (name : List ℕ) (list : List (Rc Decl Global))
    → is_some (place_among kind name list) ≡ is_some (find_decl kind name (shared_in list))
shared-found kind name list = ap is_some (position-shared kind name list) ∙ position-found kind name (shared_in list)

pub shared-absent : (kind : Kind) (name : List ℕ) (list : List (Rc Decl Global)) → place_among kind name list ≡ None
    → shared_in list ≡ remove_from kind name (shared_in list)
shared-absent kind name list none = sym (none_removed (key_at kind name) (shared_in list) (nowhere kind name list none))

remove-map : (list : List (Rc Decl Global)) (i : ℕ) → shared_in (remove list i) ≡ remove (shared_in list) i
remove-map [] zero = refl
remove-map [] (suc i) = refl
remove-map (d ∷ ds) zero = refl
remove-map (d ∷ ds) (suc i) = ap (λ l. d.value ∷ l) (remove-map ds i)

pub shared-removed : (kind : Kind) (name : List ℕ) (list : List (Rc Decl Global)) (i : ℕ) → place_among kind name list ≡ Some i
    → shared_in (remove list i) ≡ remove_from kind name (shared_in list)
shared-removed kind name list i at = remove-map list i ∙ remove_stands (key_at kind name) (shared_in list) i (first kind name list i at)
