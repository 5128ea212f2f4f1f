-- A bean that is chosen for a type is of a declaration that offers it.
use Rattle.cdi_report.proofs.Common.{◌≡◌, ℕ, Bool, true, false, List, [], ◌∷◌, map, refl, sym, ap, ◌∙◌, inl, inr, one_text, AllByRecursion}
use Rattle.cdi_report.proofs.Common.{false≢true, or_left, or_right, BeanDecl, Decl, Qual, entries, as_bean, Effective, BeanId, One}
use Rattle.cdi_report.proofs.Common.{required, ◌&&◌, list_any, bytes_eq, records, filter, has, same_text, AreDistinct, or_cases, effective}
use Rattle.cdi_report.proofs.Common.{product, ProducerDecl, records_declared, records_in, and_from, and_parts, beans, chosen, arith}
use Rattle.base_lists.proofs.Any.{any-map, any-flat_map, any-more}
use Rattle.cdi_model.specs.declared.decl.Decl.TheVariants as decls
use Rattle.cdi_effective.specs.Qualifiers.{cover_all}
use Rattle.cdi_resolve.specs.Choices.{alternatives, among, candidate, choice_of, eligible, greatest, is_eligible, is_greatest, offers, only}
use Rattle.cdi_resolve.specs.Choices.{Candidate}
use Rattle.cdi_seen.proofs.PresentLemmas.{all_present, witness}
use Rattle.cdi_seen.specs.Rests.{IsPresent}

-- one of the beans of the declaration of a class has the type
abbrev pub offers_type : List Decl → List ℕ → List ℕ → Bool
offers_type ds class t = list_any (λ b. has b.types t) (records_in ds class)

-- ---- some of a list

any-filter : {A : Type 0} (q p : A → Bool) (xs : List A) → list_any q (filter p xs) ≡ true → list_any (λ x. p x && q x) xs ≡ true
any-filter q p [] some = some
any-filter q p (x ∷ xs) some = grind (arith, any-filter q p xs)

-- ---- the one that is chosen

module _ (id : BeanId) where
  -- it is of the class
  abbrev of-class : Candidate → Bool
  of-class c = bytes_eq c.id.class id.class

  same-class : (c : Candidate) → c.id ≡ id → of-class c ≡ true
  same-class c is = same_text c.id.class id.class (ap (λ (x : BeanId). x.class) is)

  only-one : (cs : List Candidate) → only cs ≡ One id → list_any of-class cs ≡ true
  only-one [] e = absurd (cc)
  only-one (c ∷ []) e = or_left (of-class c) false (same-class c (cc))
  only-one (c ∷ d ∷ cs) e = absurd (cc)

  in-filter : (p : Candidate → Bool) (cs : List Candidate) → list_any of-class (filter p cs) ≡ true → list_any of-class cs ≡ true
  in-filter p cs some = any-more (λ c. p c && of-class c) of-class cs (λ c both. (and_parts (p c) (of-class c) both).1)
      (any-filter of-class p cs some)

  among-one : (cs alts : List Candidate) → among cs alts ≡ One id → list_any of-class alts ≡ true
  among-one cs [] e = absurd (cc)
  among-one cs (a ∷ more) e = in-filter (is_greatest (a ∷ more)) (a ∷ more) (only-one (greatest (a ∷ more)) e)

  choice-one : (cs : List Candidate) → choice_of cs ≡ One id → list_any of-class cs ≡ true
  unfolding choice_of
  choice-one [] e = absurd (cc)
  choice-one (c ∷ []) e = or_left (of-class c) false (same-class c (cc))
  choice-one (c ∷ d ∷ cs) e =
      in-filter (λ x. x.is_alternative) (c ∷ d ∷ cs) (among-one (c ∷ d ∷ cs) (alternatives (c ∷ d ∷ cs)) e)

  module _ (ds : List Decl) (t : List ℕ) where
    -- a bean of the class that has the type
    abbrev right : Effective → Bool
    right b = has b.types t && bytes_eq b.id.class id.class

    one-right : (quals : List Qual) → chosen ds (beans ds) t quals ≡ One id → list_any right (beans ds) ≡ true
    unfolding chosen eligible
    one-right quals e = any-more (λ b. is_eligible ds t quals b && bytes_eq b.id.class id.class) right (beans ds)
        (λ b both.
        let parts = and_parts (is_eligible ds t quals b) (bytes_eq b.id.class id.class) both in
        let offered = (and_parts (offers t b) (cover_all ds b.qualifiers (required quals)) parts.0).0 in
        and_from (has b.types t) (bytes_eq b.id.class id.class) (and_parts b.is_enabled (has b.types t) offered).1 parts.1)
        (any-filter (λ b. bytes_eq b.id.class id.class) (is_eligible ds t quals) (beans ds)
        (sym (any-map of-class candidate (eligible ds (beans ds) t quals)) ∙ choice-one (map candidate (eligible ds (beans ds) t quals)) e))

    -- ---- its declaration

    product-class : (d : BeanDecl) (ps : List ProducerDecl) → AllByRecursion (λ b. b.id.class ≡ d.name) (map (product ds d) ps)
    unfolding effective
    product-class d [] = tt
    product-class d (p ∷ ps) = (refl, product-class d ps)

    record-class : (d : BeanDecl) → AllByRecursion (λ b. b.id.class ≡ d.name) (records ds d)
    unfolding effective
    record-class d = (refl, product-class d d.producers)

    right-parts : (class : List ℕ) (bs : List Effective) → AllByRecursion (λ b. b.id.class ≡ class) bs → list_any right bs ≡ true
        → (class ≡ id.class) × (list_any (λ b. has b.types t) bs ≡ true)
    right-parts class [] all some = absurd (false≢true some)
    right-parts class (b ∷ bs) all some = elim (or_cases (right b) (list_any right bs) some) [
      | inl here ↦ (let parts = and_parts (has b.types t) (bytes_eq b.id.class id.class) here in (
        sym all.0 ∙ one_text b.id.class id.class parts.1,
        or_left (has b.types t) (list_any (λ b. has b.types t) bs) parts.0,
      ))
      | inr later ↦ (let rest = right-parts class bs all.1 later in
          (rest.0, or_right (has b.types t) (list_any (λ b. has b.types t) bs) rest.1))
    ]

    of-decl : (d : Decl) → IsPresent ds d → list_any right (entries ds d) ≡ true → offers_type ds id.class t ≡ true
    unfolding records_in
    of-decl (decls.Bean d) found some =
        let parts = right-parts d.name (records ds d) (record-class d) some in
        ap (λ n. list_any (λ b. has b.types t) (records_in ds n)) (sym parts.0)
        ∙ ap (λ o. list_any (λ b. has b.types t) (records_declared ds (as_bean o))) found ∙ parts.1
    of-decl (decls.Type d) found some = absurd (false≢true some)
    of-decl other found some = absurd (false≢true some)

    pub one-offers : (quals : List Qual) → AreDistinct ds → chosen ds (beans ds) t quals ≡ One id → offers_type ds id.class t ≡ true
    unfolding beans
    one-offers quals distinct e =
        let it = witness (IsPresent ds) (λ d. list_any right (entries ds d)) ds (all_present ds distinct)
        (sym (any-flat_map right (entries ds) ds) ∙ one-right quals e) in
        of-decl it.0 it.1 it.2
