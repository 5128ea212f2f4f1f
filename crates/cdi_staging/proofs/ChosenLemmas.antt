-- The bean that is chosen for an injection point stands in the scene.
use Rattle.cdi_staging.proofs.Common.{◌≡◌, ℕ, zero, Bool, true, List, [], ◌∷◌, map, Option, Some, None, refl, sym, ap, subst, ◌∙◌, one_text}
use Rattle.cdi_staging.proofs.Common.{slice_get, and_parts, false≢true, AreDistinct, BeanDecl, Decl, ProducerDecl, own-found, cond, filter}
use Rattle.cdi_staging.proofs.Common.{length, inl, inr, same_Some, ◌≢◌, ◌&&◌, unwrap_or, bytes_eq, Qual, has, same_text, Promised, Bean}
use Rattle.cdi_staging.proofs.Common.{Managed, Product, as_managed, bean_at, beans, entries, managed, product, effective, as_bean}
use Rattle.cdi_staging.proofs.Common.{find_bean, BeanId, Effective, is_told_by, One, position_of_bean, position_of_class, managed_form}
use Rattle.cdi_staging.proofs.Common.{scene_of, staged_beans, staged_product, unused_managed, at-map, arith}
use Rattle.std.proofs.Common.{◌⊎◌}
use Rattle.std.specs.Option.{option_eq}
use Rattle.cdi_model.specs.declared.decl.Decl.TheVariants as decls
use Rattle.cdi_scene.specs.declared.scene.Form.TheVariants as forms
use Rattle.cdi_effective.specs.Qualifiers.{required, cover_all}
use Rattle.cdi_resolve.specs.Choices.{Candidate, candidate, choice_of, chosen, eligible, is_eligible, only, among, greatest, is_greatest}
use Rattle.cdi_resolve.specs.Choices.{alternatives, offers}
use Rattle.cdi_subjects.proofs.RecordLemmas.{product-producer}
use Rattle.cdi_staging.proofs.BesideLemmas.{Beside, beside-map, beside-flat, second-at, found, from-filter, in-flat}
use Rattle.cdi_staging.specs.Staged.{staged_managed}

-- ---- the one that is chosen

record HasId (id : BeanId) (cs : List Candidate) : Type 0 where
  pub place : ℕ
  pub value : Candidate
  pub there : slice_get cs place ≡ Some value
  pub is : value.id ≡ id

has-in-filter : (p : Candidate → Bool) (id : BeanId) (cs : List Candidate) (h : HasId id (filter p cs)) → HasId id cs
has-in-filter p id cs h =
    let at = from-filter p cs h.place h.value h.there in
    record { place = at.0; value = h.value; there = at.1; is = h.is }

only-one : (id : BeanId) (cs : List Candidate) → only cs ≡ One id → HasId id cs
only-one id [] e = absurd (cc)
only-one id (c ∷ []) e = record { place = zero; value = c; there = refl; is = cc }
only-one id (c ∷ d ∷ cs) e = absurd (cc)

among-one : (id : BeanId) (cs alts : List Candidate) → among cs alts ≡ One id → HasId id alts
among-one id cs [] e = absurd (cc)
among-one id cs (a ∷ more) e = has-in-filter (is_greatest (a ∷ more)) id (a ∷ more) (only-one id (greatest (a ∷ more)) e)

choice-one : (id : BeanId) (cs : List Candidate) → choice_of cs ≡ One id → HasId id cs
unfolding choice_of
choice-one id [] e = absurd (cc)
choice-one id (c ∷ []) e = record { place = zero; value = c; there = refl; is = cc }
choice-one id (c ∷ d ∷ cs) e =
    has-in-filter (λ x. x.is_alternative) id (c ∷ d ∷ cs) (among-one id (c ∷ d ∷ cs) (alternatives (c ∷ d ∷ cs)) e)

-- an enabled bean of a list that has the id
pub record IsOffered (id : BeanId) (list : List Effective) : Type 0 where
  pub place : ℕ
  pub value : Effective
  pub there : slice_get list place ≡ Some value
  pub is : value.id ≡ id
  pub enabled : value.is_enabled ≡ true

pub chosen-offered : (ds : List Decl) (list : List Effective) (t : List ℕ) (quals : List Qual) (id : BeanId)
    → chosen ds list t quals ≡ One id → IsOffered id list
unfolding chosen eligible
chosen-offered ds list t quals id e =
    let h = choice-one id (map candidate (eligible ds list t quals)) e in
    let bean = at-map candidate (eligible ds list t quals) h.place h.value h.there in
    let at = from-filter (is_eligible ds t quals) list h.place bean.0 bean.1 in
    let offered = and_parts (offers t bean.0) (cover_all ds bean.0.qualifiers (required quals)) at.2 in
    record {
      place = at.0;
      value = bean.0;
      there = at.1;
      is = ap (λ c. c.id) bean.2 ∙ h.is;
      enabled = (and_parts bean.0.is_enabled (has bean.0.types t) offered.0).0;
    }

-- ---- what an id tells

option-self : (o : Option (List ℕ)) → option_eq bytes_eq o o ≡ true
option-self None = refl
option-self (Some x) = same_text x x refl

pub told-self : (x : Effective) → is_told_by x.id x ≡ true
told-self x = ap (λ b. b && option_eq bytes_eq x.id.producer x.id.producer) (same_text x.id.class x.id.class refl)
    ∙ option-self x.id.producer

option-same : (a b : Option (List ℕ)) → option_eq bytes_eq a b ≡ true → a ≡ b
option-same None None e = refl
option-same None (Some y) e = absurd (false≢true e)
option-same (Some x) None e = absurd (false≢true e)
option-same (Some x) (Some y) e = ap Some (one_text x y e)

pub told-is : (id : BeanId) (x : Effective) → is_told_by id x ≡ true → (x.id.class ≡ id.class) × (x.id.producer ≡ id.producer)
told-is id x e = grind (arith, x.id.class, id.class, x.id.producer, id.producer, one_text, option-same)

-- ---- records beside beans

pub record OfManaged (ds : List Decl) (book : List Promised) (x : Effective) (bean : Bean) : Type 0 where
  pub decl : BeanDecl
  pub place : ℕ
  pub there : slice_get ds place ≡ Some (decls.Bean decl)
  pub is : x ≡ managed ds decl
  pub made : bean ≡ staged_managed ds book decl

pub record OfProduct (ds : List Decl) (book : List Promised) (x : Effective) (bean : Bean) : Type 0 where
  pub decl : BeanDecl
  pub place : ℕ
  pub there : slice_get ds place ≡ Some (decls.Bean decl)
  pub producer : ProducerDecl
  pub at : ℕ
  pub declared : slice_get decl.producers at ≡ Some producer
  pub is : x ≡ product ds decl producer
  pub made : bean ≡ staged_product ds book decl producer

abbrev pub Stands : List Decl → List Promised → Effective → Bean → Type 0
Stands ds book x bean = OfManaged ds book x bean ⊎ OfProduct ds book x bean

of-decl : (ds : List Decl) (book : List Promised) (k : ℕ) (d : Decl) → slice_get ds k ≡ Some d
    → Beside (Stands ds book) (entries ds d) (staged_beans ds book d)
unfolding staged_beans
of-decl ds book k (decls.Bean d) at = grind (arith, d.producers, beside-map)
of-decl ds book k other at = tt

-- the beans of the scene stand beside their records
pub all-stand : (ds : List Decl) (book : List Promised) → Beside (Stands ds book) (beans ds) (scene_of ds book).beans
unfolding beans scene_of
all-stand ds book = beside-flat (Stands ds book) (entries ds) (staged_beans ds book) ds (of-decl ds book)

-- ---- declarations by their names

pub bean-found : (ds : List Decl) (k : ℕ) (d : BeanDecl) → AreDistinct ds → slice_get ds k ≡ Some (decls.Bean d)
    → find_bean d.name ds ≡ Some d
bean-found ds k d distinct at = ap as_bean (own-found ds k (decls.Bean d) distinct at)

-- ---- what is chosen stands in the scene

managed-id : (ds : List Decl) (d : BeanDecl) → ((managed ds d).id.class ≡ d.name) × ((managed ds d).id.producer ≡ None)
unfolding effective
managed-id ds d = (refl, refl)

-- a record of no producer method is that of a managed bean
pub of-none : (ds : List Decl) (book : List Promised) (x : Effective) (bean : Bean) → Stands ds book x bean → x.id.producer ≡ None
    → OfManaged ds book x bean
of-none ds book x bean (inl managed_one) none = managed_one
of-none ds book x bean (inr produced) none =
    grind (arith, produced.producer.name, produced.is, produced.decl, produced.producer, product-producer)

-- a record of a producer method is that of a product
pub of-some : (ds : List Decl) (book : List Promised) (x : Effective) (bean : Bean) (p : List ℕ) → Stands ds book x bean
    → x.id.producer ≡ Some p → OfProduct ds book x bean
of-some ds book x bean p (inr produced) some = produced
of-some ds book x bean p (inl managed_one) some = grind (arith, managed_one.decl, managed_one.is, managed-id)

-- the managed bean of a class and of an enabled bean of it
pub record IsManagedOf (ds : List Decl) (book : List Promised) (class : List ℕ) (bean : Bean) : Type 0 where
  pub decl : BeanDecl
  pub is : find_bean class ds ≡ Some decl
  pub form : bean.form ≡ forms.Managed (managed_form ds book decl)

pub record Reached (ds : List Decl) (book : List Promised) (id : BeanId) : Type 0 where
  pub bean : Bean
  pub there : bean_at (scene_of ds book) (position_of_bean (beans ds) id) ≡ Some bean
  pub of_managed : id.producer ≡ None → IsManagedOf ds book id.class bean
  pub of_product : (p : List ℕ) → id.producer ≡ Some p → (made : Product) × (bean.form ≡ forms.Product made)

pub named-decl : (ds : List Decl) (book : List Promised) (x : Effective) (bean : Bean) (class : List ℕ) → AreDistinct ds
    → (m : OfManaged ds book x bean) → x.id.class ≡ class → find_bean class ds ≡ Some m.decl
named-decl ds book x bean class distinct m is = grind (arith, m.decl.name, m.decl, m.is, m.place, m.there, managed-id, bean-found)

pub reached : (ds : List Decl) (book : List Promised) (id : BeanId) → AreDistinct ds → IsOffered id (beans ds) → Reached ds book id
reached ds book id distinct offered =
    let list = beans ds in
    let scene_beans = (scene_of ds book).beans in
    let told : is_told_by id offered.value ≡ true = subst (λ i. is_told_by i offered.value ≡ true) offered.is (told-self offered.value) in
    let first = found (is_told_by id) list offered.place offered.value offered.there told in
    let staged = second-at (Stands ds book) list scene_beans first.place first.value (all-stand ds book) first.there in
    let own = second-at (Stands ds book) list scene_beans offered.place offered.value (all-stand ds book) offered.there in
    let is = told-is id first.value first.passes in
    record {
      bean = staged.value;
      there = ap (λ o. slice_get scene_beans (unwrap_or o (length list))) first.position_is ∙ staged.there;
      of_managed = λ none.
          let m = of-none ds book first.value staged.value staged.fits (is.1 ∙ none) in
          let n = of-none ds book offered.value own.value own.fits (ap (λ i. i.producer) offered.is ∙ none) in
          let by_first : find_bean id.class ds ≡ Some m.decl = named-decl ds book first.value staged.value id.class distinct m is.0 in
          let by_own : find_bean id.class ds ≡ Some n.decl = named-decl ds book offered.value own.value id.class distinct n
          (ap (λ i. i.class) offered.is) in
          let one : Some n.decl ≡ Some m.decl = sym by_own ∙ by_first in
          let same : n.decl ≡ m.decl = same_Some n.decl m.decl one in
          let enabled : (managed ds m.decl).is_enabled ≡ true = ap (λ d. (managed ds d).is_enabled) (sym same)
          ∙ sym (ap (λ y. y.is_enabled) n.is) ∙ offered.enabled in
          record {
            decl = m.decl;
            is = by_first;
            form = ap (λ b. b.form) m.made
                ∙ ap (λ b. forms.Managed (cond b (managed_form ds book m.decl) unused_managed)) enabled;
          };
      of_product = λ p some.
          let m = of-some ds book first.value staged.value p staged.fits (is.1 ∙ some) in
          (_, ap (λ b. b.form) m.made);
    }

-- ---- managed beans that are enabled

abbrev pub managed_in : Option Bean → Option Managed
managed_in (Some bean) = as_managed bean.form
managed_in None = None

-- a managed bean that is enabled stands at the position
abbrev pub IsUsed : List Decl → List Promised → ℕ → BeanDecl → Type 0
IsUsed ds book b d = managed_in (bean_at (scene_of ds book) b) ≡ Some (managed_form ds book d)

-- the bean of an enabled declaration stands at the position of its class
pub host-used : (ds : List Decl) (book : List Promised) (k : ℕ) (d : BeanDecl) → AreDistinct ds → slice_get ds k ≡ Some (decls.Bean d)
    → (managed ds d).is_enabled ≡ true → IsUsed ds book (position_of_class (beans ds) d.name) d
unfolding beans effective
host-used ds book k d distinct at enabled =
    let id : BeanId = record { class = d.name; producer = None } in
    let among = in-flat (entries ds) ds k (decls.Bean d) 0 (managed ds d) at refl in
    let offered : IsOffered id (beans ds) =
    record { place = among.0; value = managed ds d; there = among.1; is = refl; enabled = enabled } in
    let r = reached ds book id distinct offered in
    let m = r.of_managed refl in
    let same : m.decl ≡ d = same_Some m.decl d (sym m.is ∙ bean-found ds k d distinct at) in
    ap managed_in r.there ∙ ap as_managed m.form
    ∙ ap (λ e. Some (managed_form ds book e)) same
