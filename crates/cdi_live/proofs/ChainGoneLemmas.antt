-- Of the kept chains exactly those are gone that are not wanted any more, or are touched.
use Rattle.cdi_live.proofs.Common.{same-bool, ◌≡◌, Bool, true, false, not, ◌&&◌, List, [], ◌∷◌, refl, sym, ap, ◌∙◌, inl, inr, list_any}
use Rattle.cdi_live.proofs.Common.{bytes_eq, and_from, and_parts, false≢true, or_cases, or_left, or_right, Decl, BeanPlace, ℕ, Edit}
use Rattle.cdi_live.proofs.Common.{DeclKey, AreDistinct, edited_all, edited_keys, is_wanted, bytes_decides, Tells, parts_under, parts-kept}
use Rattle.cdi_live.proofs.Common.{same_place, ChainKey, same_place-decides, is_touched, goes, is_kept_chain, ArePlaces, Chains}
use Rattle.cdi_live.proofs.Common.{is_chain_suspect, IsBetween, Sides, arith}
use Rattle.cdi_live.proofs.{AskedLemmas.any-elim, WantedPlaceLemmas.wanted-place}
use Rattle.cdi_live.proofs.ChainSuspectLemmas.{chain-same, place-same}

-- the chain is among the kept ones of some classes, and goes
abbrev goes_by_class : List Decl → List Decl → Chains → List (List ℕ) → List ℕ → BeanPlace → Bool
goes_by_class ds es m classes class place =
    list_any (λ n. bytes_eq class n && list_any (λ q. same_place place q && goes ds es n q) (parts_under m n)) classes

-- what does not go stays wanted, and is not touched
abbrev stays : List Decl → List Decl → List ℕ → BeanPlace → Bool
stays ds es class place = is_wanted es (ChainKey class place) && not (is_touched ds es (ChainKey class place))

module _ (edits : List Edit) (ds : List Decl) (told : List DeclKey) (distinct : AreDistinct ds) (apart : AreDistinct (edited_all ds edits))
    (tells : Tells ds (edited_all ds edits) (edited_keys edits) told) (m : Chains) (class : List ℕ) (place : BeanPlace)
    (parts : list_any (same_place place) (parts_under m class) ≡ true) (wanted : is_wanted ds (ChainKey class place) ≡ true) where
  abbrev es : List Decl
  es = edited_all ds edits

  -- one of a class that is not suspect does not go
  spared : is_chain_suspect ds es told class ≡ false → goes ds es class place ≡ false
  spared clear = grind (arith, place-same, wanted-place, chain-same)

  by-class : (classes : List (List ℕ)) → ((n : List ℕ) → list_any (bytes_eq n) classes ≡ is_chain_suspect ds es told n)
      → goes_by_class ds es m classes class place ≡ goes ds es class place
  by-class classes are = same-bool (goes_by_class ds es m classes class place) (goes ds es class place) there back
    where
      there : goes_by_class ds es m classes class place ≡ true → goes ds es class place ≡ true
      there h = any-elim (λ n. bytes_eq class n && list_any (λ q. same_place place q && goes ds es n q) (parts_under m n)) classes h
          (λ n one.
          let first = and_parts (bytes_eq class n) (list_any (λ q. same_place place q && goes ds es n q) (parts_under m n)) one in
          any-elim (λ q. same_place place q && goes ds es n q) (parts_under m n) first.1 (λ q two.
          let both = and_parts (same_place place q) (goes ds es n q) two in
          ap (λ x. goes ds es x place) ((bytes_decides class n).0 first.0)
          ∙ ap (goes ds es n) ((same_place-decides place q).0 both.0) ∙ both.1))

      at-part : (qs : List BeanPlace) → list_any (same_place place) qs ≡ true → goes ds es class place ≡ true
          → list_any (λ q. same_place place q && goes ds es class q) qs ≡ true
      at-part [] h going = absurd (false≢true h)
      at-part (q ∷ qs) h going = elim (or_cases (same_place place q) (list_any (same_place place) qs) h) [
        | inl here ↦ or_left (same_place place q && goes ds es class q) (list_any (λ q. same_place place q && goes ds es class q) qs)
            (and_from (same_place place q) (goes ds es class q) here
            (ap (goes ds es class) (sym ((same_place-decides place q).0 here)) ∙ going))
        | inr later ↦ or_right (same_place place q && goes ds es class q) (list_any (λ q. same_place place q && goes ds es class q) qs)
            (at-part qs later going)
      ]

      at-class : (ns : List (List ℕ)) → list_any (bytes_eq class) ns ≡ true → goes ds es class place ≡ true
          → goes_by_class ds es m ns class place ≡ true
      at-class [] h going = absurd (false≢true h)
      at-class (n ∷ ns) h going =
          let here : Bool = bytes_eq class n && list_any (λ q. same_place place q && goes ds es n q) (parts_under m n) in
          elim (or_cases (bytes_eq class n) (list_any (bytes_eq class) ns) h) [
            | inl one ↦ or_left here (goes_by_class ds es m ns class place)
                (and_from (bytes_eq class n) (list_any (λ q. same_place place q && goes ds es n q) (parts_under m n)) one
                (ap (λ x. list_any (λ q. same_place place q && goes ds es x q) (parts_under m x)) (sym ((bytes_decides class n).0 one))
                ∙ at-part (parts_under m class) parts going))
            | inr later ↦ or_right here (goes_by_class ds es m ns class place) (at-class ns later going)
          ]

      back : goes ds es class place ≡ true → goes_by_class ds es m classes class place ≡ true
      back going = by (is_chain_suspect ds es told class) refl
        where
          by : (b : Bool) → is_chain_suspect ds es told class ≡ b → goes_by_class ds es m classes class place ≡ true
          by true e = at-class classes (are class ∙ e) going
          by false e = absurd (false≢true (sym (spared e) ∙ going))

  pub going : (classes : List (List ℕ)) → ((n : List ℕ) → list_any (bytes_eq n) classes ≡ is_chain_suspect ds es told n)
      → goes_by_class ds es m classes class place ≡ not (stays ds es class place)
  going classes are = grind (arith, by-class, wanted-place)

-- what goes is known of declarations that edits lead to
abbrev GoesOn : List Decl → List DeclKey → Chains → List (List ℕ) → List ℕ → BeanPlace → List Decl → List DeclKey → Type 0
GoesOn ds told m classes class place e ks = Tells ds e ks told → AreDistinct e
    → ((n : List ℕ) → list_any (bytes_eq n) classes ≡ is_chain_suspect ds e told n)
    → goes_by_class ds e m classes class place ≡ not (stays ds e class place)

pub chains-between : (sides : Sides) → IsBetween sides → AreDistinct sides.index.now.decls → AreDistinct sides.next.now
    → (m : Chains) → ArePlaces sides.index.now.decls m → (classes : List (List ℕ))
    → ((n : List ℕ) → list_any (bytes_eq n) classes ≡ is_chain_suspect sides.index.now.decls sides.next.now sides.affected.now n)
    → (class : List ℕ) (place : BeanPlace) → is_kept_chain m class place ≡ true
    → goes_by_class sides.index.now.decls sides.next.now m classes class place
    ≡ not (stays sides.index.now.decls sides.next.now class place)
chains-between sides between distinct apart m wanted classes are class place kept =
    grind (arith, between.edited.decls, between.edited.keys, between.told, going, parts-kept)
