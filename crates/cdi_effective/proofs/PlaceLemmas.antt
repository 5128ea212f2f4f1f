-- The places of beans among the declarations.
use Rattle.cdi_effective.proofs.Common.{◌≡◌, ◌<◌, ℕ, Bool, true, false, cond, ◌||◌, List, [], ◌∷◌, length, refl, sym, ap, ◌∙◌, bytes_eq}
use Rattle.cdi_effective.proofs.Common.{Decl, zero, suc, is_some, Option, Some, None, subst, arith, AllByRecursion, false≢true, key_of}
use Rattle.cdi_effective.proofs.Common.{name_of_decl, same_key, find_decl, BeanDecl, key_exact, has, one_text, as_bean, find_bean}
use Rattle.cdi_effective.proofs.Common.{specialized, class_names, ◌++◌, ArePlaces, IsPlace, list_any, same_text, option_map, slice_get}
use Rattle.cdi_effective.proofs.Common.{place_of, nat_eq, true≢false, slice_get_within, position-found, position-there, place_of_next}
use Rattle.cdi_effective.proofs.Common.{nat_eq-same}
use Rattle.std.proofs.Common.{◌≢◌, position}
use Rattle.std.proofs.lemmas.Option.{get_or_from_slice_get}
use Rattle.base_lists.proofs.Places.{position-cons}
use Rattle.base_numbers.proofs.Numbers.{nat_eq-refl}
use Rattle.cdi_model.proofs.PositionLemmas.{one_position}
use Rattle.cdi_model.specs.{Decl.kind_of, DeclKey.same_key_equiv, DeclList.is_of, DeclList.AreDistinct}
use Rattle.cdi_model.specs.declared.decl.Decl.TheVariants as decls
use Rattle.cdi_model.specs.declared.decl.Kind.TheVariants as kinds
use Rattle.cdi_effective.proofs.ChainLemmas.{specialized-found}

-- ---- a declaration is found at its own place

pub other-key : (d e : Decl) → key_of e ≢ key_of d → same_key (key_of d) (key_of e) ≡ false
other-key d e other = by (same_key (key_of d) (key_of e)) refl
  where
    by : (b : Bool) → same_key (key_of d) (key_of e) ≡ b → b ≡ false
    by false same = refl
    by true same = absurd (other (sym (key_exact (key_of d) (key_of e) same)))

pub own-position : (ds : List Decl) (k : ℕ) (d : Decl) → AreDistinct ds → slice_get ds k ≡ Some d
    → position (is_of (kind_of d) (name_of_decl d)) ds ≡ Some k
own-position [] k d distinct at = absurd (cc)
own-position (e ∷ es) zero d distinct at =
    let same : e ≡ d = cc in
    position-cons (is_of (kind_of d) (name_of_decl d)) e es
    ∙ ap (λ b. cond b (Some 0) (option_map suc (position (is_of (kind_of d) (name_of_decl d)) es)))
    (subst (λ f. same_key (key_of d) (key_of f) ≡ true) (sym same) (same_key_equiv.refl (key_of d)))
own-position (e ∷ es) (suc k) d distinct at =
    let lt : k < length es = slice_get_within es k d at in
    let apart = distinct zero (suc k) e (omega arith) (omega arith) in
    let other : key_of e ≢ key_of d = subst (λ f. key_of e ≢ key_of f) (get_or_from_slice_get es k d e at) apart in
    position-cons (is_of (kind_of d) (name_of_decl d)) e es
    ∙ ap (λ b. cond b (Some 0) (option_map suc (position (is_of (kind_of d) (name_of_decl d)) es))) (other-key d e other)
    ∙ ap (option_map suc) (own-position es k d (λ i j f before within. distinct (suc i) (suc j) f (omega arith) (omega arith)) at)

pub own-found : (ds : List Decl) (k : ℕ) (d : Decl) → AreDistinct ds → slice_get ds k ≡ Some d
    → find_decl (kind_of d) (name_of_decl d) ds ≡ Some d
own-found ds k d distinct at =
    sym (position-there (kind_of d) (name_of_decl d) ds k (own-position ds k d distinct at)) ∙ at

pub own-place : (ds : List Decl) (k : ℕ) (bean : BeanDecl) → AreDistinct ds → slice_get ds k ≡ Some (decls.Bean bean) → IsPlace ds k bean
own-place ds k bean distinct at = (own-position ds k (decls.Bean bean) distinct at, at)

pub bean-decl : (o : Option Decl) (bean : BeanDecl) → as_bean o ≡ Some bean → o ≡ Some (decls.Bean bean)
bean-decl (Some (decls.Bean d)) bean is = let same : d ≡ bean = cc in ap (λ x. Some (decls.Bean x)) same
bean-decl (Some (decls.Type d)) bean is = absurd (let no : None ≡ Some bean = is in cc)
bean-decl (Some (decls.Qualifier d)) bean is = absurd (let no : None ≡ Some bean = is in cc)
bean-decl (Some (decls.Binding d)) bean is = absurd (let no : None ≡ Some bean = is in cc)
bean-decl (Some (decls.Stereotype d)) bean is = absurd (let no : None ≡ Some bean = is in cc)
bean-decl (Some (decls.Interceptor d)) bean is = absurd (let no : None ≡ Some bean = is in cc)
bean-decl None bean is = absurd (let no : None ≡ Some bean = is in cc)

-- a bean that is found stands at the place of its class
pub found-place : (ds : List Decl) (bean : BeanDecl) (place : ℕ) → find_bean bean.name ds ≡ Some bean → place_of ds bean.name ≡ Some place
    → IsPlace ds place bean
found-place ds bean place found at =
    (at, position-there kinds.Bean bean.name ds place at ∙ bean-decl (find_decl kinds.Bean bean.name ds) bean found)

pub place-found : (ds : List Decl) (bean : BeanDecl) (place : ℕ) → IsPlace ds place bean → find_bean bean.name ds ≡ Some bean
place-found ds bean place is = ap as_bean (sym (position-there kinds.Bean bean.name ds place is.0) ∙ is.1)

-- a bean that is found has a place
has-place : (ds : List Decl) (bean : BeanDecl) → find_bean bean.name ds ≡ Some bean → place_of ds bean.name ≡ None → ⊥
has-place ds bean found none =
    false≢true (sym (ap is_some none) ∙ position-found kinds.Bean bean.name ds
    ∙ ap is_some (bean-decl (find_decl kinds.Bean bean.name ds) bean found))

-- ---- places tell classes apart

pub apart-by-place : (ds : List Decl) (class other : List ℕ) (p q : ℕ) → place_of ds other ≡ Some p → place_of ds class ≡ Some q
    → nat_eq q p ≡ bytes_eq other class
apart-by-place ds class other p q at here = grind (arith, one_text, nat_eq, nat_eq-refl, true≢false, same_text, one_position, nat_eq-same)

-- ---- the places of some beans

pub snoc-places : (ds : List Decl) (places : List ℕ) (beans : List BeanDecl) (place : ℕ) (bean : BeanDecl) → ArePlaces ds places beans
    → IsPlace ds place bean → ArePlaces ds (places ++ place ∷ []) (beans ++ bean ∷ [])
snoc-places ds [] [] place bean are is = (is, tt)
snoc-places ds [] (b ∷ bs) place bean are is = absurd are
snoc-places ds (p ∷ ps) [] place bean are is = absurd are
snoc-places ds (p ∷ ps) (b ∷ bs) place bean are is = (are.0, snoc-places ds ps bs place bean are.1 is)

pub places-tell : (ds : List Decl) (places : List ℕ) (beans : List BeanDecl) (class : List ℕ) (place : ℕ) → ArePlaces ds places beans
    → place_of ds class ≡ Some place → list_any (nat_eq place) places ≡ has (class_names beans) class
places-tell ds [] [] class place are at = refl
places-tell ds [] (b ∷ bs) class place are at = absurd are
places-tell ds (p ∷ ps) [] class place are at = absurd are
places-tell ds (p ∷ ps) (b ∷ bs) class place are at =
    ap (λ x. x || list_any (nat_eq place) ps) (apart-by-place ds class b.name p place are.0.0 at)
    ∙ ap (λ x. bytes_eq b.name class || x) (places-tell ds ps bs class place are.1 at)

pub places-within : (ds : List Decl) (places : List ℕ) (beans : List BeanDecl) → ArePlaces ds places beans
    → AllByRecursion (λ place. place < length ds) places
places-within ds [] [] are = tt
places-within ds [] (b ∷ bs) are = absurd are
places-within ds (p ∷ ps) [] are = absurd are
places-within ds (p ∷ ps) (b ∷ bs) are = (slice_get_within ds p (decls.Bean b) are.0.1, places-within ds ps bs are.1)

-- ---- the next place

pub no-next : (ds : List Decl) (bean : BeanDecl) → place_of_next ds (specialized ds bean) ≡ None → specialized ds bean ≡ None
no-next ds bean none = by (specialized ds bean) refl
  where
    by : (o : Option BeanDecl) → specialized ds bean ≡ o → o ≡ None
    by None is = refl
    by (Some next) is = absurd (has-place ds next (specialized-found ds bean next is) (ap (place_of_next ds) (sym is) ∙ none))

abbrev pub Next : List Decl → BeanDecl → ℕ → Type 0
Next ds bean place = (next : BeanDecl) × (specialized ds bean ≡ Some next) × IsPlace ds place next

pub the-next : (ds : List Decl) (bean : BeanDecl) (place : ℕ) → place_of_next ds (specialized ds bean) ≡ Some place → Next ds bean place
the-next ds bean place at = grind (arith, found-place, specialized-found)
