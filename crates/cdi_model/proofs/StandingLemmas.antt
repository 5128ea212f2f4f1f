-- What is found, and what an edit leaves, of a base of which some is gone and some replaced.
use Rattle.cdi_model.proofs.Common.{◌≡◌, ◌+◌, ◌<◌, ◌≤◌, ℕ, zero, suc, Bool, true, false, List, [], ◌∷◌, length, Option, Some, None, is_some}
use Rattle.cdi_model.proofs.Common.{refl, sym, ap, ◌∙◌, subst, position, slice_get, slice_set, arith, IsDistinct, length-set, position-map}
use Rattle.cdi_model.proofs.Common.{is_marked, count_below, marked_count, key_of, kind_of, name_of_decl, same_key, key_at, find_decl, is_of}
use Rattle.cdi_model.proofs.Common.{put_in, remove_from, changed_by, kept, keys_in, AreKept, AreMarked, Decl, Kind, Replaced}
use Rattle.cdi_positions.specs.Marks as positions
use Rattle.cdi_model.proofs.KeptLemmas.{has_key, StandsAt, stands-first, first-stands, none_found, none_removed, none_kept, gone_kept}
use Rattle.cdi_model.proofs.KeptLemmas.{find_kept, rank_kept, length_kept, few_kept, put_kept, remove_kept}
use Rattle.cdi_model.proofs.PlaceLemmas.{First, First-position, First-within, Nowhere, Nowhere-position, position-First, position-Nowhere}
use Rattle.cdi_model.proofs.ReplacedLemmas.{length-changed, keys-set}
use Rattle.cdi_model.specs.Layers.{unmarked}

-- where keys are the same, a key has the same place
keys-position : (kind : Kind) (name : List ℕ) (ds es : List Decl) → keys_in ds ≡ keys_in es
    → position (is_of kind name) ds ≡ position (is_of kind name) es
keys-position kind name ds es same =
    sym (position-map key_of (same_key (key_at kind name)) ds) ∙ ap (position (same_key (key_at kind name))) same
    ∙ position-map key_of (same_key (key_at kind name)) es

unmarked-some : (marks : List Bool) (o : Option ℕ) (p : ℕ) → unmarked marks o ≡ Some p → (o ≡ Some p) × (is_marked marks p ≡ false)
unmarked-some marks None p h = absurd (cc)
unmarked-some marks (Some q) p h = grind arith

unmarked-none : (marks : List Bool) (p : ℕ) → unmarked marks (Some p) ≡ None → is_marked marks p ≡ true
unmarked-none marks p h = grind arith

module _ (base : List Decl) (gone changed : List Bool) (rs : List Replaced) (k : AreKept base gone changed rs) where
  -- the declaration at the place is the only one of its kind and name, and it is kept
  pub record Stands (kind : Kind) (name : List ℕ) (p : ℕ) : Type 0 where
    pub only : StandsAt (key_at kind name) p (changed_by rs base)
    pub stays : is_marked gone p ≡ false
    pub within : p < length gone
    pub there : is_some (slice_get (changed_by rs base) p) ≡ true

  first-now : (kind : Kind) (name : List ℕ) (p : ℕ) → position (is_of kind name) base ≡ Some p
      → First (has_key (key_at kind name)) p (changed_by rs base)
  first-now kind name p at = First-position (has_key (key_at kind name)) (changed_by rs base) p
      (keys-position kind name (changed_by rs base) base k.alike ∙ at)

  only-now : (kind : Kind) (name : List ℕ) (p : ℕ) → position (is_of kind name) base ≡ Some p
      → StandsAt (key_at kind name) p (changed_by rs base)
  only-now kind name p at = stands-first (key_at kind name) (changed_by rs base) p
      (subst (IsDistinct same_key) (sym k.alike) k.listed.distinct) (first-now kind name p at)

  pub stands : (kind : Kind) (name : List ℕ) (p : ℕ) → unmarked gone (position (is_of kind name) base) ≡ Some p → Stands kind name p
  stands kind name p h =
      let both = unmarked-some gone (position (is_of kind name) base) p h in
      let first = First-position (has_key (key_at kind name)) base p both.0 in
      record {
        only = only-now kind name p both.0;
        stays = both.1;
        within = let low = First-within (has_key (key_at kind name)) base p first in omega (arith, low, k.listed.count, k.gone_size);
        there = some-there (changed_by rs base) p (first-now kind name p both.0);
      }
    where
      some-there : (ds : List Decl) (p : ℕ) → First (has_key (key_at kind name)) p ds → is_some (slice_get ds p) ≡ true
      some-there [] p at = absurd at
      some-there (d ∷ ds) zero at = refl
      some-there (d ∷ ds) (suc p) at = some-there ds p at.1

  -- none of a kind and name is kept
  pub nowhere : (kind : Kind) (name : List ℕ) → unmarked gone (position (is_of kind name) base) ≡ None
      → Nowhere (has_key (key_at kind name)) (kept gone (changed_by rs base))
  nowhere kind name h = by (position (is_of kind name) base) refl
    where
      by : (o : Option ℕ) → position (is_of kind name) base ≡ o → Nowhere (has_key (key_at kind name)) (kept gone (changed_by rs base))
      by None e = none_kept (key_at kind name) gone (changed_by rs base)
          (Nowhere-position (has_key (key_at kind name)) (changed_by rs base)
          (keys-position kind name (changed_by rs base) base k.alike ∙ e))
      by (Some p) e = gone_kept (key_at kind name) gone (changed_by rs base) p (only-now kind name p e)
          (unmarked-none gone p (ap (unmarked gone) (sym e) ∙ h))

  pub found : (kind : Kind) (name : List ℕ) (p : ℕ) → unmarked gone (position (is_of kind name) base) ≡ Some p
      → find_decl kind name (kept gone (changed_by rs base)) ≡ slice_get (changed_by rs base) p
  found kind name p h = let s = stands kind name p h in find_kept (key_at kind name) gone (changed_by rs base) p s.only s.stays

  pub is_found : (kind : Kind) (name : List ℕ) (p : ℕ) → unmarked gone (position (is_of kind name) base) ≡ Some p
      → is_some (find_decl kind name (kept gone (changed_by rs base))) ≡ true
  is_found kind name p h = let s = stands kind name p h in ap is_some (found kind name p h) ∙ s.there

  pub absent : (kind : Kind) (name : List ℕ) → unmarked gone (position (is_of kind name) base) ≡ None
      → find_decl kind name (kept gone (changed_by rs base)) ≡ None
  absent kind name h = none_found (key_at kind name) (kept gone (changed_by rs base)) (nowhere kind name h)

  pub rank : (kind : Kind) (name : List ℕ) (p r : ℕ) → unmarked gone (position (is_of kind name) base) ≡ Some p
      → count_below p gone + r ≡ p → position (is_of kind name) (kept gone (changed_by rs base)) ≡ Some r
  rank kind name p r h e = let s = stands kind name p h in
      position-First (has_key (key_at kind name)) (kept gone (changed_by rs base)) r
      (rank_kept (key_at kind name) gone (changed_by rs base) p r s.only s.stays e)

  pub unplaced : (kind : Kind) (name : List ℕ) → unmarked gone (position (is_of kind name) base) ≡ None
      → position (is_of kind name) (kept gone (changed_by rs base)) ≡ None
  unplaced kind name h = position-Nowhere (has_key (key_at kind name)) (kept gone (changed_by rs base)) (nowhere kind name h)

  pub count-kept : count_below (length base) gone + length (kept gone (changed_by rs base)) ≡ length base
  count-kept = grind (arith, length, length-changed, length_kept)

  pub few : marked_count gone + length (kept gone (changed_by rs base)) ≤ positions.limit
  few = grind (arith, length-changed, few_kept)

  -- a removal of what is kept
  pub removed : (kind : Kind) (name : List ℕ) (p : ℕ) → unmarked gone (position (is_of kind name) base) ≡ Some p
      → kept (slice_set gone p true) (changed_by rs base) ≡ remove_from kind name (kept gone (changed_by rs base))
  removed kind name p h = let s = stands kind name p h in
      remove_kept (key_at kind name) gone (changed_by rs base) p s.only s.stays s.within

  pub unremoved : (kind : Kind) (name : List ℕ) → unmarked gone (position (is_of kind name) base) ≡ None
      → remove_from kind name (kept gone (changed_by rs base)) ≡ kept gone (changed_by rs base)
  unremoved kind name h = none_removed (key_at kind name) (kept gone (changed_by rs base)) (nowhere kind name h)

  -- a put of one that is kept
  pub replaced : (d : Decl) (p : ℕ) → unmarked gone (position (is_of (kind_of d) (name_of_decl d)) base) ≡ Some p
      → kept gone (slice_set (changed_by rs base) p d) ≡ put_in (kept gone (changed_by rs base)) d
  replaced d p h = let s = stands (kind_of d) (name_of_decl d) p h in put_kept d gone (changed_by rs base) p s.only s.stays

  -- it leaves what is kept a list of a base with changes
  pub still-kept : (d : Decl) (p : ℕ) (more : List Replaced) → unmarked gone (position (is_of (kind_of d) (name_of_decl d)) base) ≡ Some p
      → changed_by more base ≡ slice_set (changed_by rs base) p d → AreMarked (slice_set changed p true) more
      → AreKept base gone (slice_set changed p true) more
  still-kept d p more h e m = grind (arith, stands, length-set, keys-set, first-stands)

-- by the same kind and name
pub same-unmarked : (a kind : Kind) (n name : List ℕ) (base : List Decl) (gone : List Bool) (o : Option ℕ) → a ≡ kind → n ≡ name
    → o ≡ unmarked gone (position (is_of a n) base) → unmarked gone (position (is_of kind name) base) ≡ o
same-unmarked a kind n name base gone o s t h = sym (h ∙ (λ i. unmarked gone (position (is_of (s i) (t i)) base)))

-- where no place is marked all are kept
pub all_kept : (marks : List Bool) (ds : List Decl) → ((p : ℕ) → is_marked marks p ≡ false) → kept marks ds ≡ ds
all_kept [] ds none = refl
all_kept (m ∷ ms) [] none = refl
all_kept (true ∷ ms) (d ∷ ds) none = absurd (let bad : true ≡ false = none 0 in cc)
all_kept (false ∷ ms) (d ∷ ds) none = ap (λ l. d ∷ l) (all_kept ms ds (λ p. none (suc p)))
