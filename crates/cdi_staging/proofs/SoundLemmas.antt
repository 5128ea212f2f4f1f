-- A deployment without faults has a sound scene.
use Rattle.cdi_staging.proofs.Common.{at-map, ◌≡◌, ℕ, Bool, true, false, List, [], ◌++◌, map, Option, Some, None, refl, sym, ap, subst, ◌∙◌}
use Rattle.cdi_staging.proofs.Common.{arith, slice_get, and_parts, false≢true, AreDistinct, BeanDecl, Decl, MethodDecl, ObserverDecl}
use Rattle.cdi_staging.proofs.Common.{PartDecl, PointDecl, ProducerDecl, BeanPlace, cond, inl, inr, find, same_Some, Promised, Bean}
use Rattle.cdi_staging.proofs.Common.{Managed, Product, as_managed, bean_at, beans, managed, product, effective, managed_form, scene_of}
use Rattle.cdi_staging.proofs.Common.{unused_managed, chain_at, targets, bit_and, none-some, IsAllowedAt, Place, Part, IsFinePart, fired_at}
use Rattle.cdi_staging.proofs.Common.{site_of, staged_part, as_product, CallSite, Observer, staged_observer, is_named, promise_of}
use Rattle.cdi_staging.proofs.Common.{IsSoundPart, Notified, IsFit, AreSatisfied, part_of, part_with, staged_method, Invocable, AreFine}
use Rattle.cdi_staging.proofs.Common.{IsFineManaged, IsFineProducer, product_form, unused_product}
use Rattle.cdi_model.specs.declared.decl.Decl.TheVariants as decls
use Rattle.cdi_model.specs.declared.place.BeanPlace.TheVariants as spots
use Rattle.cdi_bodies.specs.Flags as flags
use Rattle.cdi_scene.specs.{Scene.place_of, Sound.Lacks}
use Rattle.cdi_scene.specs.declared.place.Place.TheVariants as places
use Rattle.cdi_staging.proofs.BesideLemmas.{First, first-at, of-find}
use Rattle.cdi_staging.proofs.ChosenLemmas.{IsUsed, Stands, all-stand, managed_in}
use Rattle.cdi_staging.proofs.PartLemmas.{IsSoundFor, Names, from-option, part-sound, seen}
use Rattle.cdi_staging.specs.{Staged.empty_place, Staged.sight_of, Staged.staged_place, Staged.producer_chain, Sites.method_sight}

-- ---- what the places allow

pub no-load-disposal : bit_and flags.at_disposal flags.load ≡ flags.load → ⊥
no-load-disposal e = absurd (omega (arith, e))

pub no-store-disposal : bit_and flags.at_disposal flags.store ≡ flags.store → ⊥
no-store-disposal e = absurd (omega (arith, e))

pub no-call-disposal : bit_and flags.at_disposal flags.call ≡ flags.call → ⊥
no-call-disposal e = absurd (omega (arith, e))

pub no-fire-disposal : bit_and flags.at_disposal flags.fire ≡ flags.fire → ⊥
no-fire-disposal e = absurd (omega (arith, e))

pub no-proceed-disposal : bit_and flags.at_disposal flags.proceed ≡ flags.proceed → ⊥
no-proceed-disposal e = absurd (omega (arith, e))

no-call-destruction : bit_and flags.at_destruction flags.call ≡ flags.call → ⊥
no-call-destruction e = absurd (omega (arith, e))

no-fire-destruction : bit_and flags.at_destruction flags.fire ≡ flags.fire → ⊥
no-fire-destruction e = absurd (omega (arith, e))

no-proceed-destruction : bit_and flags.at_destruction flags.proceed ≡ flags.proceed → ⊥
no-proceed-destruction e = absurd (omega (arith, e))

no-proceed-instance : bit_and flags.at_instance flags.proceed ≡ flags.proceed → ⊥
no-proceed-instance e = absurd (omega (arith, e))

pub no-load-class : bit_and flags.at_class flags.load ≡ flags.load → ⊥
no-load-class e = absurd (omega (arith, e))

pub no-store-class : bit_and flags.at_class flags.store ≡ flags.store → ⊥
no-store-class e = absurd (omega (arith, e))

pub no-proceed-class : bit_and flags.at_class flags.proceed ≡ flags.proceed → ⊥
no-proceed-class e = absurd (omega (arith, e))

-- ---- what is invoked at a place

-- a part that is sound and keeps to the place
-- and each of whose call sites is such
pub record IsGoodPart (ds : List Decl) (book : List Promised) (place : Place) (Leads : CallSite → Type 0) (part : Part) : Type 0 where
  pub sound : IsSoundPart book (scene_of ds book) part
  pub allowed : IsAllowedAt place part
  pub own : Lacks part flags.proceed
  pub leads : (k : ℕ) (site : CallSite) → slice_get part.calls k ≡ Some site → Leads site

-- each interceptor of a chain is such
abbrev pub AreLinks : (ℕ → Type 0) → List ℕ → Type 0
AreLinks Links chain = (k q : ℕ) → slice_get chain k ≡ Some q → Links q

-- interceptors that are such, and a part, if any, that is
pub record IsGood (ds : List Decl) (book : List Promised) (place : Place) (Leads : CallSite → Type 0) (Links : ℕ → Type 0)
    (x : Invocable) : Type 0 where
  pub links : AreLinks Links x.chain
  pub part : (part : Part) → x.part ≡ Some part → IsGoodPart ds book place Leads part

-- what a site is that names one of some injection points and parameters
abbrev pub LeadsBy : List Decl → List PointDecl → List PointDecl → (CallSite → Type 0) → Type 0
LeadsBy ds points params Leads = (site : CallSite) → Names ds points params site → Leads site

no-links : (Links : ℕ → Type 0) → AreLinks Links []
no-links Links k q e = absurd (none-some q e)

good-empty : (ds : List Decl) (book : List Promised) (place : Place) (Leads : CallSite → Type 0) (Links : ℕ → Type 0)
    → IsGood ds book place Leads Links empty_place
good-empty ds book place Leads Links = record { links = no-links Links; part = λ part e. absurd (cc) }

-- what a place takes of a part that is sound there
abbrev Takes : List Decl → List Promised → ℕ → Place → List PointDecl → List PointDecl → (CallSite → Type 0) → Type 0
Takes ds book allowed place points params Leads =
    (part : Part) → IsSoundFor ds book allowed points params part → IsGoodPart ds book place Leads part

good-place : (ds : List Decl) (book : List Promised) (allowed : ℕ) (place : Place) (points params : List PointDecl)
    (Leads : CallSite → Type 0) (Links : ℕ → Type 0) (chain : List ℕ) (o : Option PartDecl)
    → AreDistinct ds → AreSatisfied ds points → AreSatisfied ds params
    → ((part : PartDecl) → o ≡ Some part → IsFinePart ds book allowed (params ++ points) part)
    → Takes ds book allowed place points params Leads → AreLinks Links chain
    → IsGood ds book place Leads Links (staged_place ds book (seen ds points params) chain o)
unfolding staged_place
good-place ds book allowed place points params Leads Links chain None distinct own_points own_params fine takes links =
    grind (arith, none-some)
good-place ds book allowed place points params Leads Links chain (Some p) distinct own_points own_params fine takes links = record {
  links = links;
  part = λ part e. takes part (part-sound ds book allowed points params p part distinct own_points own_params (fine p refl) e);
}

-- ---- managed beans

pub none-satisfied : (ds : List Decl) → AreSatisfied ds []
none-satisfied ds k point e = absurd (cc)

at-instance : (ds : List Decl) (book : List Promised) (place : Place) (points params : List PointDecl) (Leads : CallSite → Type 0)
    → ((part : Part) → IsAllowedAt place part) → LeadsBy ds points params Leads
    → Takes ds book flags.at_instance place points params Leads
at-instance ds book place points params Leads allows lead part s = grind (arith, s.sound, s.kept, s.names, no-proceed-instance)

at-destruction : (ds : List Decl) (book : List Promised) (points : List PointDecl) (Leads : CallSite → Type 0)
    → LeadsBy ds points [] Leads → Takes ds book flags.at_destruction places.Pre points [] Leads
at-destruction ds book points Leads lead part s =
    grind (arith, s.sound, s.kept, s.names, no-call-destruction, no-fire-destruction, no-proceed-destruction)

-- the place of a bean that a place of its instances is
abbrev pub IsSpot : BeanDecl → Place → BeanPlace → Type 0
IsSpot d places.Construct spot = spot ≡ spots.Construct
IsSpot d places.Post spot = spot ≡ spots.Post
IsSpot d places.Pre spot = spot ≡ spots.Pre
IsSpot d (places.Method m) spot = (method : MethodDecl) × (slice_get d.methods m ≡ Some method) × (spot ≡ spots.Method method.name)
IsSpot d (places.Observer o) spot =
    (observer : ObserverDecl) × (slice_get d.observers o ≡ Some observer) × (spot ≡ spots.Observer observer.name)
IsSpot d place spot = ⊥

-- each interceptor around the place is such
abbrev pub LinksAt : List Decl → BeanDecl → Place → (ℕ → Type 0) → Type 0
LinksAt ds d place Links = (spot : BeanPlace) → IsSpot d place spot → AreLinks Links (chain_at ds d spot)

good-form : (ds : List Decl) (book : List Promised) (d : BeanDecl) (place : Place) (Leads : CallSite → Type 0) (Links : ℕ → Type 0)
    (x : Invocable) → AreDistinct ds → IsFineManaged ds book d → LeadsBy ds d.points [] Leads → LinksAt ds d place Links
    → place_of (managed_form ds book d) place ≡ Some x → IsGood ds book place Leads Links x
unfolding managed_form
good-form ds book d places.Construct Leads Links x distinct fine lead link e =
    subst (IsGood ds book places.Construct Leads Links) (same_Some _ x e)
    (good-place ds book flags.at_instance places.Construct d.points [] Leads Links _ d.construct distinct fine.points (none-satisfied ds)
    fine.construct (at-instance ds book places.Construct d.points [] Leads (λ part. tt) lead) (link spots.Construct refl))
good-form ds book d places.Post Leads Links x distinct fine lead link e =
    subst (IsGood ds book places.Post Leads Links) (same_Some _ x e)
    (good-place ds book flags.at_instance places.Post d.points [] Leads Links _ d.post distinct fine.points (none-satisfied ds) fine.post
    (at-instance ds book places.Post d.points [] Leads (λ part. tt) lead) (link spots.Post refl))
good-form ds book d places.Pre Leads Links x distinct fine lead link e =
    subst (IsGood ds book places.Pre Leads Links) (same_Some _ x e)
    (good-place ds book flags.at_destruction places.Pre d.points [] Leads Links _ d.pre distinct fine.points (none-satisfied ds) fine.pre
    (at-destruction ds book d.points Leads lead) (link spots.Pre refl))
good-form ds book d (places.Method m) Leads Links x distinct fine lead link e =
    let at = at-map (staged_method ds book d) d.methods m x e in
    subst (IsGood ds book (places.Method m) Leads Links) at.2
    (good-place ds book flags.at_instance (places.Method m) d.points [] Leads Links _ (Some at.0.part) distinct fine.points
    (none-satisfied ds)
    (λ part same. subst (IsFinePart ds book flags.at_instance d.points) (same_Some at.0.part part same) (fine.methods m at.0 at.1))
    (at-instance ds book (places.Method m) d.points [] Leads (λ part. tt) lead) (link (spots.Method at.0.name) (at.0, at.1, refl)))
good-form ds book d (places.Producer b) Leads Links x distinct fine lead link e = absurd (cc)
good-form ds book d other Leads Links x distinct fine lead link e = absurd (cc)

good-unused : (ds : List Decl) (book : List Promised) (place : Place) (Leads : CallSite → Type 0) (Links : ℕ → Type 0) (x : Invocable)
    → place_of unused_managed place ≡ Some x → IsGood ds book place Leads Links x
good-unused ds book places.Construct Leads Links x e =
    subst (IsGood ds book places.Construct Leads Links) (same_Some _ x e) (good-empty ds book places.Construct Leads Links)
good-unused ds book places.Post Leads Links x e =
    subst (IsGood ds book places.Post Leads Links) (same_Some _ x e) (good-empty ds book places.Post Leads Links)
good-unused ds book places.Pre Leads Links x e =
    subst (IsGood ds book places.Pre Leads Links) (same_Some _ x e) (good-empty ds book places.Pre Leads Links)
good-unused ds book (places.Method m) Leads Links x e = absurd (cc)
good-unused ds book other Leads Links x e = absurd (cc)

good-managed : (ds : List Decl) (book : List Promised) (d : BeanDecl) (place : Place) (Leads : CallSite → Type 0) (Links : ℕ → Type 0)
    (x : Invocable) (e : Bool) → AreDistinct ds → (e ≡ true → IsFineManaged ds book d) → (e ≡ true → LeadsBy ds d.points [] Leads)
    → (e ≡ true → LinksAt ds d place Links)
    → place_of (cond e (managed_form ds book d) unused_managed) place ≡ Some x
    → IsGood ds book place Leads Links x
good-managed ds book d place Leads Links x true distinct fine lead link at =
    good-form ds book d place Leads Links x distinct (fine refl) (lead refl) (link refl) at
good-managed ds book d place Leads Links x false distinct fine lead link at = good-unused ds book place Leads Links x at

-- ---- observer methods

-- what is invoked for an observer method of a bean
abbrev pub observer_in : ℕ → Option Managed → Option Observer
observer_in o (Some one) = slice_get one.observers o
observer_in o None = None

abbrev pub observed_in : Option Observer → Option Invocable
observed_in (Some observer) = Some observer.invocable
observed_in None = None

-- each call site is such that names an injection point of the bean or a parameter of an observer method of it
abbrev pub LeadsObserver : List Decl → BeanDecl → ℕ → (CallSite → Type 0) → Type 0
LeadsObserver ds d o Leads =
    (observer : ObserverDecl) → slice_get d.observers o ≡ Some observer → LeadsBy ds d.points observer.params Leads

good-staged : (ds : List Decl) (book : List Promised) (d : BeanDecl) (o : ℕ) (Leads : CallSite → Type 0) (Links : ℕ → Type 0)
    (observer : ObserverDecl) → AreDistinct ds → IsFineManaged ds book d → slice_get d.observers o ≡ Some observer
    → LeadsBy ds d.points observer.params Leads → LinksAt ds d (places.Observer o) Links
    → IsGood ds book (places.Observer o) Leads Links (staged_observer ds book d observer).invocable
unfolding staged_observer
good-staged ds book d o Leads Links observer distinct fine at lead link =
    let own = fine.observers o observer at in
    good-place ds book flags.at_instance (places.Observer o) d.points observer.params Leads Links _ (Some observer.part) distinct
    fine.points own.params
    (λ part same. subst (IsFinePart ds book flags.at_instance (observer.params ++ d.points)) (same_Some observer.part part same) own.part)
    (at-instance ds book (places.Observer o) d.points observer.params Leads (λ part. tt) lead)
    (link (spots.Observer observer.name) (observer, at, refl))

from-observed : (one : Option Observer) (x : Invocable) → observed_in one ≡ Some x
    → (observer : Observer) × (one ≡ Some observer) × (observer.invocable ≡ x)
from-observed None x e = absurd (none-some x e)
from-observed (Some observer) x e = (observer, refl, same_Some observer.invocable x e)

good-observer : (ds : List Decl) (book : List Promised) (d : BeanDecl) (o : ℕ) (Leads : CallSite → Type 0) (Links : ℕ → Type 0)
    (x : Invocable) (e : Bool) → AreDistinct ds → (e ≡ true → IsFineManaged ds book d) → (e ≡ true → LeadsObserver ds d o Leads)
    → (e ≡ true → LinksAt ds d (places.Observer o) Links)
    → observed_in (observer_in o (Some (cond e (managed_form ds book d) unused_managed))) ≡ Some x
    → IsGood ds book (places.Observer o) Leads Links x
unfolding managed_form
good-observer ds book d o Leads Links x true distinct fine lead link at =
    let one = from-observed (observer_in o (Some (managed_form ds book d))) x at in
    let declared = at-map (staged_observer ds book d) d.observers o one.0 one.1 in
    subst (IsGood ds book (places.Observer o) Leads Links) (ap (λ y. y.invocable) declared.2 ∙ one.2)
    (good-staged ds book d o Leads Links declared.0 distinct (fine refl) declared.1 (lead refl declared.0 declared.1) (link refl))
good-observer ds book d o Leads Links x false distinct fine lead link at = absurd (none-some x at)

-- ---- producer methods

offered : (ds : List Decl) (d : BeanDecl) (p : ProducerDecl) → (product ds d p).is_enabled ≡ true → (managed ds d).is_enabled ≡ true
unfolding effective
offered ds d p e = (and_parts (managed ds d).is_enabled _ e).0

-- what a static producer method sees of its bean, or another one
abbrev pub points_seen : Bool → BeanDecl → List PointDecl
points_seen true d = []
points_seen false d = d.points

good-by : (ds : List Decl) (book : List Promised) (d : BeanDecl) (p : ProducerDecl) (b : ℕ) (Leads : CallSite → Type 0)
    (Links : ℕ → Type 0) (chain : List ℕ) (s : Bool)
    → AreDistinct ds → AreSatisfied ds d.points → AreSatisfied ds p.params
    → IsFinePart ds book (cond s flags.at_class flags.at_instance) (p.params ++ cond s [] d.points) p.part
    → LeadsBy ds (points_seen s d) p.params Leads → AreLinks Links chain
    → IsGood ds book (places.Producer b) Leads Links
    (staged_place ds book (method_sight s (sight_of ds d) p.params (targets ds p.params)) chain (Some p.part))
good-by ds book d p b Leads Links chain true distinct own_points own_params fine lead links =
    good-place ds book flags.at_class (places.Producer b) [] p.params Leads Links chain (Some p.part) distinct
    (none-satisfied ds) own_params
    (λ part same. subst (IsFinePart ds book flags.at_class (p.params ++ [])) (same_Some p.part part same) fine)
    (λ part s. record {
      sound = s.sound;
      allowed = tt;
      own = λ has. no-proceed-class (s.kept flags.proceed has);
      leads = λ k site at. lead site (s.names k site at);
    }) links
good-by ds book d p b Leads Links chain false distinct own_points own_params fine lead links =
    good-place ds book flags.at_instance (places.Producer b) d.points p.params Leads Links chain
    (Some p.part) distinct own_points own_params
    (λ part same. subst (IsFinePart ds book flags.at_instance (p.params ++ d.points)) (same_Some p.part part same) fine)
    (at-instance ds book (places.Producer b) d.points p.params Leads (λ part. tt) lead) links

-- ---- what stands at a position

abbrev pub product_in : Option Bean → Option Product
product_in (Some bean) = as_product bean.form
product_in None = None

abbrev pub place_in : Place → Option Managed → Option Invocable
place_in place (Some one) = place_of one place
place_in place None = None

abbrev pub producer_in : Option Product → Option Invocable
producer_in (Some one) = Some one.invocable
producer_in None = None

abbrev pub part_in : Option Invocable → Option Part
part_in (Some one) = one.part
part_in None = None

abbrev pub disposer_in : Option Product → Option Part
disposer_in (Some one) = one.disposer
disposer_in None = None

-- what is known of the declaration of a bean
pub stands-at : (ds : List Decl) (book : List Promised) (b : ℕ) (bean : Bean) → bean_at (scene_of ds book) b ≡ Some bean
    → First (Stands ds book) (beans ds) b bean
stands-at ds book b bean at = first-at (Stands ds book) (beans ds) (scene_of ds book).beans b bean (all-stand ds book) at

used : (ds : List Decl) (book : List Promised) (b : ℕ) (d : BeanDecl) (e : Bool)
    → managed_in (bean_at (scene_of ds book) b) ≡ Some (cond e
    (managed_form ds book d) unused_managed)
    → e ≡ true → IsUsed ds book b d
used ds book b d true at is = at
used ds book b d false at is = absurd (false≢true is)

pub own-good : (ds : List Decl) (book : List Promised) (b : ℕ) (place : Place) (Leads : CallSite → Type 0) (Links : ℕ → Type 0)
    (x : Invocable) (o : Option Bean) → AreDistinct ds → AreFine ds book
    → ((d : BeanDecl) → IsUsed ds book b d → LeadsBy ds d.points [] Leads)
    → ((d : BeanDecl) → IsUsed ds book b d → LinksAt ds d place Links)
    → bean_at (scene_of ds book) b ≡ o → place_in place (managed_in o) ≡ Some x → IsGood ds book place Leads Links x
own-good ds book b place Leads Links x None distinct fine lead link at e = absurd (cc)
own-good ds book b place Leads Links x (Some bean) distinct fine lead link at e =
    elim (stands-at ds book b bean at).fits [
      | inl m ↦
          let is_used : (managed ds m.decl).is_enabled ≡ true → IsUsed ds book b m.decl =
          λ enabled. used ds book b m.decl (managed ds m.decl).is_enabled
          (ap managed_in at ∙ ap (λ bn. as_managed bn.form) m.made) enabled in
          good-managed ds book m.decl place Leads Links x (managed ds m.decl).is_enabled distinct
          (fine m.place m.decl m.there).managed_bean
          (λ enabled. lead m.decl (is_used enabled)) (λ enabled. link m.decl (is_used enabled))
          (sym (ap (λ bn. place_in place (as_managed bn.form)) m.made) ∙ e)
      | inr p ↦
          let none : None ≡ Some x = sym (ap (λ bn. place_in place (as_managed bn.form)) p.made) ∙ e in
          absurd (none-some x none)
    ]

pub observer-good : (ds : List Decl) (book : List Promised) (b o : ℕ) (Leads : CallSite → Type 0) (Links : ℕ → Type 0)
    (x : Invocable) (bean : Option Bean) → AreDistinct ds → AreFine ds book
    → ((d : BeanDecl) → IsUsed ds book b d → LeadsObserver ds d o Leads)
    → ((d : BeanDecl) → IsUsed ds book b d → LinksAt ds d (places.Observer o) Links)
    → bean_at (scene_of ds book) b ≡ bean → observed_in (observer_in o (managed_in bean)) ≡ Some x
    → IsGood ds book (places.Observer o) Leads Links x
observer-good ds book b o Leads Links x None distinct fine lead link at e = absurd (none-some x e)
observer-good ds book b o Leads Links x (Some bean) distinct fine lead link at e =
    elim (stands-at ds book b bean at).fits [
      | inl m ↦
          let is_used : (managed ds m.decl).is_enabled ≡ true → IsUsed ds book b m.decl =
          λ enabled. used ds book b m.decl (managed ds m.decl).is_enabled
          (ap managed_in at ∙ ap (λ bn. as_managed bn.form) m.made) enabled in
          good-observer ds book m.decl o Leads Links x (managed ds m.decl).is_enabled distinct
          (fine m.place m.decl m.there).managed_bean
          (λ enabled. lead m.decl (is_used enabled)) (λ enabled. link m.decl (is_used enabled))
          (sym (ap (λ bn. observed_in (observer_in o (as_managed bn.form))) m.made) ∙ e)
      | inr p ↦ absurd (none-some x (sym (ap (λ bn. observed_in (observer_in o (as_managed bn.form))) p.made) ∙ e))
    ]

-- each interceptor around a producer method is such
abbrev pub LinksOf : List Decl → BeanDecl → ProducerDecl → (ℕ → Type 0) → Type 0
LinksOf ds d p Links = AreLinks Links (producer_chain ds d p)

good-product : (ds : List Decl) (book : List Promised) (d : BeanDecl) (p : ProducerDecl) (b : ℕ) (Leads : CallSite → Type 0)
    (Links : ℕ → Type 0) (e : Bool)
    → AreDistinct ds → (e ≡ true → AreSatisfied ds d.points × IsFineProducer ds book d p)
    → (e ≡ true → LeadsBy ds (points_seen p.is_static d) p.params Leads) → (e ≡ true → LinksOf ds d p Links)
    → IsGood ds book (places.Producer b) Leads Links
    (cond e (product_form ds book d p)
    (unused_product ds d)).invocable
unfolding product_form
good-product ds book d p b Leads Links true distinct fine lead link =
    let f = fine refl in
    good-by ds book d p b Leads Links _ p.is_static distinct f.0 f.1.params f.1.part (lead refl) (link refl)
good-product ds book d p b Leads Links false distinct fine lead link = good-empty ds book (places.Producer b) Leads Links

-- what is known of an enabled product
pub fine-product : (ds : List Decl) (book : List Promised) (k : ℕ) (d : BeanDecl) (j : ℕ) (p : ProducerDecl) → AreFine ds book
    → slice_get ds k ≡ Some (decls.Bean d) → slice_get d.producers j ≡ Some p → (product ds d p).is_enabled ≡ true
    → AreSatisfied ds d.points × IsFineProducer ds book d p
fine-product ds book k d j p fine there declared enabled =
    let f = fine k d there in
    ((f.managed_bean (offered ds d p enabled)).points, f.products j p declared enabled)

-- a product of an enabled producer method of a declaration stands at the position
pub record IsProduced (ds : List Decl) (book : List Promised) (q : ℕ) (d : BeanDecl) (p : ProducerDecl) : Type 0 where
  pub place : ℕ
  pub there : slice_get ds place ≡ Some (decls.Bean d)
  pub at : ℕ
  pub declared : slice_get d.producers at ≡ Some p
  pub enabled : (managed ds d).is_enabled ≡ true
  pub product_is : product_in (bean_at (scene_of ds book) q)
      ≡ Some (product_form ds book d p)

is-produced : (ds : List Decl) (book : List Promised) (q : ℕ) (d : BeanDecl) (p : ProducerDecl) (k j : ℕ) (e : Bool)
    → slice_get ds k ≡ Some (decls.Bean d) → slice_get d.producers j ≡ Some p → (e ≡ true → (managed ds d).is_enabled ≡ true)
    → product_in (bean_at (scene_of ds book) q)
    ≡ Some (cond e (product_form ds book d p)
    (unused_product ds d))
    → e ≡ true → IsProduced ds book q d p
is-produced ds book q d p k j e there declared enabled at is = grind (arith, false≢true)

pub producer-good : (ds : List Decl) (book : List Promised) (q : ℕ) (Leads : CallSite → Type 0) (Links : ℕ → Type 0) (x : Invocable)
    (o : Option Bean) → AreDistinct ds → AreFine ds book
    → ((d : BeanDecl) (p : ProducerDecl) → IsProduced ds book q d p → LeadsBy ds (points_seen p.is_static d) p.params Leads)
    → ((d : BeanDecl) (p : ProducerDecl) → IsProduced ds book q d p → LinksOf ds d p Links)
    → bean_at (scene_of ds book) q ≡ o → producer_in (product_in o) ≡ Some x → IsGood ds book (places.Producer q) Leads Links x
producer-good ds book q Leads Links x None distinct fine lead link at e = absurd (cc)
producer-good ds book q Leads Links x (Some bean) distinct fine lead link at e =
    elim (stands-at ds book q bean at).fits [
      | inl m ↦
          let none : None ≡ Some x = sym (ap (λ bn. producer_in (as_product bn.form)) m.made) ∙ e in
          absurd (none-some x none)
      | inr p ↦
          let made : (product ds p.decl p.producer).is_enabled ≡ true → IsProduced ds book q p.decl p.producer =
          λ enabled. is-produced ds book q p.decl p.producer p.place p.at (product ds p.decl p.producer).is_enabled p.there p.declared
          (offered ds p.decl p.producer) (ap product_in at ∙ ap (λ bn. as_product bn.form) p.made) enabled in
          subst (IsGood ds book (places.Producer q) Leads Links)
          (same_Some _ x (sym (ap (λ bn. producer_in (as_product bn.form)) p.made) ∙ e))
          (good-product ds book p.decl p.producer q Leads Links (product ds p.decl p.producer).is_enabled distinct
          (fine-product ds book p.place p.decl p.at p.producer fine p.there p.declared)
          (λ enabled. lead p.decl p.producer (made enabled)) (λ enabled. link p.decl p.producer (made enabled)))
    ]

-- ---- static producer methods

pub part-there : (book : List Promised) (calls : List CallSite) (fires : List (List Notified)) (allowed : ℕ) (name : List ℕ)
    → IsFit book allowed name → (made : Part) × (part_of book calls fires name ≡ Some made)
unfolding part_of
part-there book calls fires allowed name fit =
    let kept = from-option (λ b. b.1) (find (is_named name) book) fit.promise fit.found in
    let at = of-find (is_named name) book kept.0 kept.1 in (
      record { body = at.place; promise = fit.promise; calls = calls; fires = fires },
      ap (λ o. part_with calls fires o (promise_of book name)) at.position_is ∙ ap (part_with calls fires (Some at.place)) fit.found,
    )

static-by : (ds : List Decl) (book : List Promised) (d : BeanDecl) (p : ProducerDecl) (chain : List ℕ) (s : Bool) → AreDistinct ds
    → AreSatisfied ds p.params
    → IsFinePart ds book (cond s flags.at_class flags.at_instance) (p.params ++ cond s [] d.points) p.part → s ≡ true
    → (made : Part)
    × ((staged_place ds book (method_sight s (sight_of ds d) p.params (targets ds p.params)) chain (Some p.part)).part
    ≡ Some made)
    × IsSoundFor ds book flags.at_class [] p.params made
unfolding staged_place staged_part
static-by ds book d p chain true distinct own_params fine is =
    let lead = site_of ds (beans ds) (seen ds [] p.params) in
    let made = part-there book (map lead p.part.calls) (map (fired_at ds (beans ds)) p.part.fires) flags.at_class p.part.body
    fine.body in
    (made.0, made.1, part-sound ds book flags.at_class [] p.params p.part made.0 distinct (none-satisfied ds) own_params fine made.1)
static-by ds book d p chain false distinct own_params fine is = absurd (false≢true is)

-- the part of a static producer method is there
pub static-part : (ds : List Decl) (book : List Promised) (d : BeanDecl) (p : ProducerDecl) → AreDistinct ds → IsFineProducer ds book d p
    → p.is_static ≡ true
    → (made : Part)
    × ((product_form ds book d p).invocable.part
    ≡ Some made)
    × IsSoundFor ds book flags.at_class [] p.params made
unfolding product_form
static-part ds book d p distinct fine is = static-by ds book d p _ p.is_static distinct fine.params fine.part is
