-- What a stage tells, and the declarations after it.
use Rattle.cdi_index.proofs.Common.{◌≡◌, ℕ, Bool, true, false, ◌&&◌, List, [], ◌∷◌, map, Option, refl, sym, ap, ◌∙◌, list_any, or_parts}
use Rattle.cdi_index.proofs.Common.{Decl, DeclKey, key_at, same_key, is_among, is_kept, made_of, reads, and_from, or_left, AreDistinct}
use Rattle.cdi_index.proofs.Common.{Listing, Shelf, stored, IsExact, IsShelf, IsSound, suc, Change, Stored, made_in, applied, change_of}
use Rattle.cdi_index.proofs.Common.{made_after, lent, is_at_stake, replaced_records, Tells, arith}
use Rattle.cdi_model.specs.declared.decl.Kind.TheVariants as kinds
use Rattle.cdi_index.proofs.AffectedLemmas.{hits, hit-parts}
use Rattle.cdi_index.proofs.ChangeLemmas.{none-of}
use Rattle.cdi_index.proofs.ReplacedLemmas.{flag-spared, lent-are, spared, unaffected}

module _ (ds es : List Decl) (numbers : DeclKey → ℕ) (keys ks told : List DeclKey) (shelf : Shelf) (listings : List Listing) (distinct : AreDistinct ds)
    (apart : AreDistinct es) (is : IsShelf shelf) (exact : IsExact ds (stored shelf)) (sound : IsSound (stored shelf) listings)
    (others : (k : DeclKey) → list_any (same_key k) ks ≡ false → made_of es k ≡ made_of ds k)
    (affected : (k : DeclKey) → list_any (same_key k) ks ≡ list_any (hits ds k) keys)
    (at_stake : (k : DeclKey) → is_among told k ≡ is_at_stake shelf (map (change_of es numbers) ks) k) where
  none-at-stake : (k : DeclKey) → is_among told k ≡ false → is_at_stake shelf (map (change_of es numbers) ks) k ≡ false
  none-at-stake k none = sym (at_stake k) ∙ none

  -- what is not told is not affected
  not-hit : (k : DeclKey) → is_among told k ≡ false → list_any (hits ds k) keys ≡ false
  not-hit k none = sym (affected k) ∙ unaffected ds es numbers ks shelf listings distinct apart is exact sound others k (none-at-stake k none)

  edited-told : (k : DeclKey) → is_kept k.kind ≡ true → is_among keys k ≡ true → is_among told k ≡ true
  edited-told k kept among = by (is_among told k) refl
    where
      by : (b : Bool) → is_among told k ≡ b → b ≡ true
      by true e = refl
      by false e = sym (not-hit k e) ∙ hit-parts ds keys k
          ∙ or_left (is_kept k.kind && is_among keys k) (list_any (reads (made_of ds k)) keys)
          (and_from (is_kept k.kind) (is_among keys k) kept among)

  pub tells : Tells ds es keys told
  tells = record {
    edited = edited-told;
    apart = λ k none key among. none-of (reads (made_of ds k)) keys key
        (or_parts (is_kept k.kind && is_among keys k) (list_any (reads (made_of ds k)) keys)
        (sym (hit-parts ds keys k) ∙ not-hit k none)).1 among;
    records = λ class none.
        let k = key_at kinds.Bean class in
        sym (lent-are es class)
        ∙ ap (λ o. lent o (made_of es k)) (spared ds es numbers ks shelf listings distinct apart is exact sound others k (none-at-stake k none))
        ∙ ap (lent (replaced_records ds k))
        (others k (unaffected ds es numbers ks shelf listings distinct apart is exact sound others k (none-at-stake k none)))
        ∙ lent-are ds class;
    turned = λ class none. flag-spared ds es numbers ks shelf listings distinct apart is exact sound others (key_at kinds.Bean class)
        (none-at-stake (key_at kinds.Bean class) none);
  }

-- ---- after changes

-- what is made of a declaration after changes is what is kept then
pub made-applied : (n : ℕ) (cs : List Change) (m : DeclKey → Option Stored) (k : DeclKey)
    → made_after cs (made_in (m k)) k ≡ made_in (applied n cs m k)
made-applied n [] m k = refl
made-applied n (c ∷ cs) m k = grind (arith, made-applied (suc n) cs m k, c.key, c.made)
