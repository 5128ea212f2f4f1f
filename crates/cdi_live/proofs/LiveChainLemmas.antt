-- What is known of chains after a commit, and after an evaluation.
use Rattle.cdi_live.proofs.Common.{◌≡◌, Bool, true, false, cond, not, ◌&&◌, List, [], ◌∷◌, map, is_some, refl, sym, ap, ◌∙◌, bytes_eq}
use Rattle.cdi_live.proofs.Common.{and_parts, false≢true, Decl, BeanPlace, chain_by, ℕ, ◌||◌, Option, Some, None, bytes_eq-turned}
use Rattle.cdi_live.proofs.Common.{option_map_or, list_any-append, AreDistinct, is_wanted, ◌++◌, BeanDecl, class_bindings, bytes_decides}
use Rattle.cdi_live.proofs.Common.{same_place, ChainKey, same_place-decides, is_touched, is_kept_chain, ArePlaces, Chains, find_bean}
use Rattle.cdi_live.proofs.Common.{has_place, set_by, ByChain, touched_where_seen_differs, is_place_of, Ok, if◌then◌else◌, chain_of, answer}
use Rattle.cdi_live.proofs.Common.{Removes, is_gone_chain, AreGoneChains, GoneChain, arith}
use Rattle.std.proofs.Common.{Result, Err}
use Rattle.cdi_model.specs.declared.refusal.Refusal.{Refusal}
use Rattle.cdi_model.specs.declared.refusal.Refusal.TheVariants as refusals
use Rattle.cdi_intercept.specs.{Chains.chain_told, Sees.Seen}
use Rattle.cdi_intercept.proofs.SeenLemmas.{told_rests_on_seen}
use Rattle.cdi_live.proofs.WantedPlaceLemmas.{wanted-place}
use Rattle.cdi_live.specs.{ChainGone.AreRightChains, Places.same_place_equiv}

-- ---- after a commit

abbrev stays : List Decl → List Decl → List ℕ → BeanPlace → Bool
stays ds es class place = is_wanted es (ChainKey class place) && not (is_touched ds es (ChainKey class place))

module _ (ds es : List Decl) (m new : Chains) (list : List GoneChain) (gone : AreGoneChains ds es m list)
    (forgets : (c : List ℕ) (p : BeanPlace) → answer same_place new c
    p ≡ (if is_gone_chain list c p then None else answer same_place m c p)) where
  -- a chain that is kept after was kept before, and stays
  record Stays (class : List ℕ) (place : BeanPlace) : Type 0 where
    same : answer same_place new class place ≡ answer same_place m class place
    stays_it : stays ds es class place ≡ true

  un-not : (b : Bool) → false ≡ not b → b ≡ true
  un-not b h = grind (arith, false≢true)

  staying : (class : List ℕ) (place : BeanPlace) → is_kept_chain new class place ≡ true → Stays class place
  staying class place kept = grind (arith, false≢true, un-not)

  pub places-after : ArePlaces es new
  places-after class place kept =
      (and_parts (is_wanted es (ChainKey class place)) (not (is_touched ds es (ChainKey class place)))
      (staying class place kept).stays_it).0

  seen-chain : (a b : Seen) → ByChain a ≡ ByChain b → a ≡ b
  seen-chain a b e = cc

  -- a place that is there has a chain
  told : (class : List ℕ) (place : BeanPlace) → is_place_of es class place ≡ true
      → (names : List (List ℕ)) × (chain_of es class place ≡ Ok names)
  told class place there = by (find_bean class es) refl there
    where
      by : (o : Option BeanDecl) → find_bean class es ≡ o → option_map_or (λ b. has_place b place) o false ≡ true
          → (names : List (List ℕ)) × (chain_of es class place ≡ Ok names)
      by None found h = absurd (false≢true h)
      by (Some b) found h =
          let names : List (List ℕ) = map (λ i. i.name) (chain_by es (set_by es (class_bindings es b) b place) place) in (
            names,
            ap (λ o. chain_told es o place) found ∙ ap (λ (c : Bool). cond {A = Result (List (List ℕ)) Refusal} c (Ok names)
                (Err refusals.NoMethod)) h,
          )

  pub right-chains-after : AreDistinct es → AreRightChains ds m → AreRightChains es new
  right-chains-after apart right class place names kept =
      grind (arith, staying, told, wanted-place, seen-chain, touched_where_seen_differs, told_rests_on_seen)

-- ---- after an evaluation

module _ (ds : List Decl) (m new : Chains) (class : List ℕ) (place : BeanPlace) (names : List (List ℕ))
    (keeps : (c : List ℕ) (p : BeanPlace) → answer same_place new c p
    ≡ (if bytes_eq class c && same_place place p then Some names else answer same_place m c p)) where
  pub known-chain-with : (c : List ℕ) (p : BeanPlace)
      → is_kept_chain new c p ≡ (is_kept_chain m c p || (bytes_eq class c && same_place place p))
  known-chain-with c p = grind arith

  pub right-chains-with : chain_of ds class place ≡ Ok names → AreRightChains ds m → AreRightChains ds new
  right-chains-with is right c p others kept = by (bytes_eq class c && same_place place p) refl (sym (keeps c p) ∙ kept)
    where
      by : (b : Bool) → (bytes_eq class c && same_place place p) ≡ b
          → (if b then Some names else answer same_place m c p) ≡ Some others → chain_of ds c p ≡ Ok others
      by true e f =
          let parts = and_parts (bytes_eq class c) (same_place place p) e in
          let one : names ≡ others = cc in
          ap (λ x. chain_of ds x p) (sym ((bytes_decides class c).0 parts.0))
          ∙ ap (chain_of ds class) (sym ((same_place-decides place p).0 parts.1))
          ∙ is ∙ ap Ok one
      by false e f = right c p others f

  pub places-with : is_wanted ds (ChainKey class place) ≡ true → ArePlaces ds m → ArePlaces ds new
  places-with wanted places c p kept = by (bytes_eq class c && same_place place p) refl (sym (ap is_some (keeps c p)) ∙ kept)
    where
      by : (b : Bool) → (bytes_eq class c && same_place place p) ≡ b
          → is_some (if b then Some names else answer same_place m c p) ≡ true → is_wanted ds (ChainKey c p) ≡ true
      by true e f =
          let parts = and_parts (bytes_eq class c) (same_place place p) e in
          ap (λ x. is_wanted ds (ChainKey x p)) (sym ((bytes_decides class c).0 parts.0))
          ∙ ap (λ x. is_wanted ds (ChainKey class x)) (sym ((same_place-decides place p).0 parts.1)) ∙ wanted
      by false e f = places c p f

-- ---- what is forgotten, one after another

pub forget-next-chain : (items rest : List GoneChain) (one : GoneChain) (old new : Chains) → items ≡ rest ++ one ∷ []
    → Removes same_place one.class one.place old new → (c : List ℕ) (p : BeanPlace)
    → (if is_gone_chain rest c p then None else answer same_place new c p)
    ≡ (if is_gone_chain items c p then None else answer same_place old c p)
forget-next-chain items rest one old new are removes c p =
    grind (arith, one.class, one.place, bytes_eq-turned, same_place_equiv.symm, list_any-append)
