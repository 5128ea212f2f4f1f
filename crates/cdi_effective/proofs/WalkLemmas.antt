-- The walk along the places of a chain.
use Rattle.cdi_effective.proofs.Common.{◌≡◌, ◌<◌, ℕ, Bool, true, false, ◌||◌, List, [], ◌∷◌, length, get_or, refl, sym, ap, ◌∙◌, bytes_eq}
use Rattle.cdi_effective.proofs.Common.{Decl, suc, is_some, Some, None, subst, inl, inr, arith, cases_Bool, limit, BeanDecl, has}
use Rattle.cdi_effective.proofs.Common.{specialized, chain_behind, behind, ◌++◌, ArePlaces, IsPlace, replicate, get_or-replicate, place_of}
use Rattle.cdi_effective.proofs.Common.{nat_eq, true≢false, slice_get_within, position-found, position-there, place_of_next, set}
use Rattle.cdi_effective.proofs.Common.{length-replicate, or_left, nat_eq-same}
use Rattle.std.proofs.lemmas.{Option.slice_get-get_or, List.get_or-set_same, List.get_or-set_other, List.length-set}
use Rattle.cdi_model.specs.declared.decl.Decl.TheVariants as decls
use Rattle.cdi_model.specs.declared.decl.Kind.TheVariants as kinds
use Rattle.cdi_effective.proofs.PlaceLemmas.{apart-by-place, no-next, snoc-places, the-next}
use Rattle.cdi_effective.proofs.StepLemmas.{all-behind, ended, ends-met, ends-none, no-steps, one-more}
use Rattle.cdi_effective.specs.Places.{next_at}

-- whether the bean of a class was met is said at its place
abbrev pub Told : List Decl → List (List ℕ) → List Bool → Type 0
Told ds names met = (class : List ℕ) (place : ℕ) → place_of ds class ≡ Some place → get_or met place false ≡ has names class

pub record Walks (ds : List Decl) (b : BeanDecl) (places : List ℕ) (met : List Bool) (last left : ℕ) : Type 0 where
  pub names : List (List ℕ)
  pub bean : BeanDecl
  pub front : List BeanDecl
  pub sized : length met ≡ length ds
  pub here : IsPlace ds last bean
  pub told : Told ds names met
  pub are : ArePlaces ds places front
  pub rest : front ++ chain_behind left ds names bean ≡ behind ds b

pub place-within : (ds : List Decl) (class : List ℕ) (place : ℕ) → place_of ds class ≡ Some place → place < length ds
place-within ds class place at = grind (arith, length, true≢false, is_some, position-found, slice_get_within, position-there)

other-nat : (m n : ℕ) → nat_eq m n ≡ false → m ≡ n → ⊥
other-nat m n e same = grind arith

or-other : (a b : Bool) → a ≡ false → (a || b) ≡ b
or-other a b e = grind (arith, true≢false)

-- one more is met
pub told-more : (ds : List Decl) (names : List (List ℕ)) (met : List Bool) (place : ℕ) (bean : BeanDecl) → place < length met
    → IsPlace ds place bean → Told ds names met → Told ds (bean.name ∷ names) (set met place true)
told-more ds names met place bean within is told class at here =
    let apart : nat_eq at place ≡ bytes_eq bean.name class = apart-by-place ds class bean.name place at is.0 here in
    elim (cases_Bool (nat_eq at place)) [
      | inl e ↦
          ap (λ k. get_or (set met place true) k false) (nat_eq-same at place e)
          ∙ get_or-set_same met place true false within
          ∙ sym (or_left (bytes_eq bean.name class) (has names class) (sym apart ∙ e))
      | inr e ↦
          get_or-set_other met place at true false (other-nat at place e)
          ∙ told class at here
          ∙ sym (or-other (bytes_eq bean.name class) (has names class) (sym apart ∙ e))
    ]

told-none : (ds : List Decl) → Told ds [] (replicate (length ds) false)
told-none ds class place at = get_or-replicate (length ds) place false false (place-within ds class place at)

-- what stands within a list does not go by what stands for what is past it
pub known-there : (met : List Bool) (place : ℕ) (other : Bool) → place < length met → get_or met place other ≡ true
    → get_or met place false ≡ true
known-there met place other within known = grind (arith, get_or, slice_get-get_or)

pub none-places : (ds : List Decl) (places : List ℕ) (beans : List BeanDecl) → places ≡ [] → beans ≡ [] → ArePlaces ds places beans
none-places ds [] [] none empty = tt
none-places ds [] (b ∷ bs) none empty = cc
none-places ds (p ∷ ps) bs none empty = cc

pub walk-begins : (ds : List Decl) (b : BeanDecl) (places : List ℕ) (met : List Bool) (first : ℕ) → IsPlace ds first b → places ≡ []
    → met ≡ set (replicate (length ds) false) first true → Walks ds b places met first limit
walk-begins ds b places met first is none made =
    let blank : List Bool = replicate (length ds) false in
    let sized : length blank ≡ length ds = length-replicate (length ds) false in
    let within : first < length ds = place-within ds b.name first is.0 in
    record {
      names = b.name ∷ [];
      bean = b;
      front = [];
      sized = ap length made ∙ length-set blank first true ∙ sized;
      here = is;
      told = subst (Told ds (b.name ∷ [])) (sym made) (told-more ds [] blank first b (omega (arith, within, sized)) is (told-none ds));
      are = none-places ds places [] none refl;
      rest = all-behind ds b;
    }

-- at the place of a bean stands its link
link-at : (ds : List Decl) (place : ℕ) (bean : BeanDecl) → IsPlace ds place bean → next_at ds place ≡ place_of_next ds (specialized ds bean)
link-at ds place bean is = rw is.1 refl

-- a walk that is over has all places
ends : (ds : List Decl) (b : BeanDecl) (places : List ℕ) (met : List Bool) (last left : ℕ) → (walk : Walks ds b places met last left)
    → chain_behind left ds walk.names walk.bean ≡ [] → ArePlaces ds places (behind ds b)
ends ds b places met last left walk none =
    subst (ArePlaces ds places) (ended walk.front (chain_behind left ds walk.names walk.bean) (behind ds b) none walk.rest) walk.are

pub walk-ends-none : (ds : List Decl) (b : BeanDecl) (places : List ℕ) (met : List Bool) (last left : ℕ) → Walks ds b places met last left
    → next_at ds last ≡ None → ArePlaces ds places (behind ds b)
walk-ends-none ds b places met last left walk none =
    ends ds b places met last left walk
    (ends-none left ds walk.names walk.bean (no-next ds walk.bean (sym (link-at ds last walk.bean walk.here) ∙ none)))

pub walk-ends-met : (ds : List Decl) (b : BeanDecl) (places : List ℕ) (met : List Bool) (last left next : ℕ)
    → Walks ds b places met last left → next_at ds last ≡ Some next → get_or met next false ≡ true → ArePlaces ds places (behind ds b)
walk-ends-met ds b places met last left next walk at known =
    let to = the-next ds walk.bean next (sym (link-at ds last walk.bean walk.here) ∙ at) in
    ends ds b places met last left walk
    (ends-met left ds walk.names walk.bean to.0 to.1 (sym (walk.told to.0.name next to.2.0) ∙ known))

pub walk-over : (ds : List Decl) (b : BeanDecl) (places : List ℕ) (met : List Bool) (last left : ℕ) → Walks ds b places met last left
    → left ≡ 0 → ArePlaces ds places (behind ds b)
walk-over ds b places met last left walk none = ends ds b places met last left walk (no-steps left ds walk.names walk.bean none)

pub next-within : (ds : List Decl) (b : BeanDecl) (places : List ℕ) (met : List Bool) (last left next : ℕ)
    → Walks ds b places met last left → next_at ds last ≡ Some next → next < length met
next-within ds b places met last left next walk at =
    grind (arith, walk.bean, walk.here, walk.sized, the-next, link-at, length, slice_get_within)

pub walk-goes-on : (ds : List Decl) (b : BeanDecl) (places more : List ℕ) (met new : List Bool) (last left less next : ℕ)
    → Walks ds b places met last left → next_at ds last ≡ Some next → get_or met next false ≡ false → left ≡ suc less
    → more ≡ places ++ next ∷ [] → new ≡ set met next true → Walks ds b more new next less
walk-goes-on ds b places more met new last left less next walk at fresh step pushed made =
    let to = the-next ds walk.bean next (sym (link-at ds last walk.bean walk.here) ∙ at) in
    let within = next-within ds b places met last left next walk at in
    record {
      names = to.0.name ∷ walk.names;
      bean = to.0;
      front = walk.front ++ to.0 ∷ [];
      sized = ap length made ∙ length-set met next true ∙ walk.sized;
      here = to.2;
      told = subst (Told ds (to.0.name ∷ walk.names)) (sym made) (told-more ds walk.names met next to.0 within to.2 walk.told);
      are = subst (λ ps. ArePlaces ds ps (walk.front ++ to.0 ∷ [])) (sym pushed)
          (snoc-places ds places walk.front next to.0 walk.are to.2);
      rest = one-more left less ds walk.names walk.bean to.0 walk.front (behind ds b) step to.1
          (sym (walk.told to.0.name next to.2.0) ∙ fresh) walk.rest;
    }
