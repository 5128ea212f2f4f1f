-- What is known of each declaration of a deployment without faults, and that such a deployment has a sound scene.
use Rattle.std.proofs.Common.{◌≡◌, ◌&&◌, ℕ, zero, suc, Bool, true, false, List, [], ◌∷◌, ◌++◌, map, Option, Some, None, Contains, refl, sym}
use Rattle.std.proofs.Common.{subst, ap, ◌∙◌, arith}
use Rattle.std.proofs.lemmas.Bool.{false≢true, true≢false, not-false, or_right}
use Rattle.std.specs.{List.flat_map, List.slice_get, Option.option_eq, Option.option_to_list, Str.bytes_eq}
use Rattle.std.proofs.lemmas.{Bool.Decides.nat_tests, Grind.flat_map-append}
use Rattle.base_lists.proofs.Flat.{map-empty, append-empty}
use Rattle.base_numbers.proofs.Texts.{same_text}
use Rattle.cdi_model.specs.Mentions.{Mention, BodyOf, CallOf, MethodOf, TypeIn, mentions, of_bindings, of_disposer, of_event, of_method}
use Rattle.cdi_model.specs.Mentions.{of_observer, of_part, of_parts, of_point, of_producer, of_qualifiers, part_place_of}
use Rattle.cdi_model.specs.Short.{AreShort, IsShortPart, IsShortBean, IsShortInterceptor}
use Rattle.cdi_model.specs.{Decl.kind_of, Decl.name_of_decl, declared.decl.BeanDecl.BeanDecl, declared.decl.CallDecl.CallDecl}
use Rattle.cdi_model.specs.declared.decl.{Decl.Decl, DisposerDecl.DisposerDecl, InterceptorDecl.InterceptorDecl, MethodDecl.MethodDecl}
use Rattle.cdi_model.specs.declared.decl.{ObserverDecl.ObserverDecl, PartDecl.PartDecl, PointDecl.PointDecl, ProducerDecl.ProducerDecl}
use Rattle.cdi_model.specs.declared.{mention.PointPlace.PointPlace, place.PartPlace.PartPlace}
use Rattle.cdi_model.specs.declared.decl.Decl.TheVariants as decls
use Rattle.cdi_model.specs.declared.mention.PointPlace.TheVariants as points_are
use Rattle.cdi_model.specs.declared.mention.TypePlace.TheVariants as types_are
use Rattle.cdi_model.specs.declared.place.PartPlace.TheVariants as places
use Rattle.cdi_bodies.specs.{Book.Promised, Book.promise_of}
use Rattle.cdi_bodies.proofs.FlagLemmas.{keeps_each}
use Rattle.cdi_bodies.specs.Flags as flags
use Rattle.cdi_effective.specs.{Beans.entries, Beans.managed, Beans.product, declared.records.BeanId.BeanId}
use Rattle.cdi_intercept.specs.Chains.{is_enabled}
use Rattle.cdi_resolve.specs.declared.choice.Choice.{Choice}
use Rattle.cdi_resolve.specs.declared.choice.Choice.TheVariants as choices
use Rattle.cdi_observe.specs.Answers.{answer_to}
use Rattle.cdi_faults.specs.{Codes.all_codes, FaultText.in_text_order, declared.fault.Code.Code, declared.fault.Subject.Subject}
use Rattle.cdi_faults.proofs.{CodeLemmas.has_code, OrderLemmas.none_in_order}
use Rattle.cdi_faults.specs.declared.fault.Code.TheVariants as codes_of
use Rattle.cdi_faults.specs.declared.fault.Fault.TheVariants as faults_are
use Rattle.cdi_faults.specs.declared.fault.Subject.TheVariants as subjects
use Rattle.cdi_subjects.specs.Filter.{found_in, has_enabled, is_enabled_in, producer_of_part, producer_of_point, some_if}
use Rattle.cdi_subjects.specs.Sites.{is_lost, lost_in, own_points, points_seen}
use Rattle.cdi_subjects.specs.Subjects.{is_ambiguous, is_unsatisfied, point_in, subjects_at_fault}
use Rattle.cdi_subjects.specs.Parts.{allowed_in, is_fit, unfit_in}
use Rattle.cdi_subjects.proofs.RecordLemmas.{managed-producer, product-producer}
use Rattle.cdi_validate.specs.Faults.{faults, faults_of, faults_of_code}
use Rattle.cdi_staging.specs.Faultless.{AreFine, AreFineAround, IsFineAround, AreSatisfied, IsFineManaged, IsFinePart, allowed_to}
use Rattle.cdi_staging.specs.Faultless.{IsFineObserver, IsFineProducer, IsFit, IsLed, seen_by}
use Rattle.cdi_staging.proofs.SceneLemmas.{fine_is_sound}
use Rattle.cdi_wiring.specs.Laws.{FaultlessIsSound}

-- ---- lists that are empty

first-empty : {X : Type 0} (xs ys : List X) → xs ++ ys ≡ [] → xs ≡ []
first-empty [] ys e = refl
first-empty (x ∷ xs) ys e = absurd (cc)

flat-empty : {X Y : Type 0} (f : X → List Y) (xs : List X) (k : ℕ) (x : X) → flat_map f xs ≡ []
    → slice_get xs k ≡ Some x → f x ≡ []
flat-empty f [] k x e at = absurd (cc)
flat-empty f (v ∷ xs) zero x e at = grind (arith, first-empty)
flat-empty f (v ∷ xs) (suc k) x e at = flat-empty f xs k x (append-empty (f v) (flat_map f xs) e) at

-- the same of an element, wherever it stands
flat-empty-in : {X Y : Type 0} (f : X → List Y) (xs : List X) (x : X) → flat_map f xs ≡ [] → Contains xs x → f x ≡ []
flat-empty-in f [] x e (k, within, at) = absurd (omega (arith, within))
flat-empty-in f (v ∷ xs) x e (zero, within, at) = subst (λ w. f w ≡ []) at (first-empty (f v) (flat_map f xs) e)
flat-empty-in f (v ∷ xs) x e (suc k, within, at) =
    flat-empty-in f xs x (append-empty (f v) (flat_map f xs) e) (k, omega (arith, within), at)

some-empty : {X : Type 0} (o : Option X) → option_to_list o ≡ [] → o ≡ None
some-empty None e = refl
some-empty (Some x) e = absurd (cc)

not-found : (b : Bool) (subject : Subject) → some_if b subject ≡ None → b ≡ false
not-found b subject e = grind arith

-- ---- faults

-- where a list is empty, so is the part with which it begins
record IsEmptyWith {X : Type 0} (first all : List X) : Type 0 where
  pub empty : all ≡ [] → first ≡ []

with-itself : {X : Type 0} (xs : List X) → IsEmptyWith xs xs
with-itself xs = record { empty = λ e. e }

with-more : {X : Type 0} (first xs ys : List X) → IsEmptyWith first xs → IsEmptyWith first (xs ++ ys)
with-more first xs ys with = record { empty = λ e. with.empty (first-empty xs ys e) }

-- no declaration has a fault, where there is none
none-declared : (ds : List Decl) (book : List Promised) → faults ds book ≡ [] → flat_map (faults_of ds book) ds ≡ []
unfolding faults
none-declared ds book none =
    let with : IsEmptyWith (flat_map (faults_of ds book) ds) (faults ds book) = search (with-itself, with-more) in
    with.empty none

-- nothing of a declaration has a code, where there is no fault
none-at-fault : (ds : List Decl) (book : List Promised) (k : ℕ) (d : Decl) (code : Code) → faults ds book ≡ []
    → slice_get ds k ≡ Some d
    → subjects_at_fault code ds book d ≡ []
none-at-fault ds book k d code none at =
    let of_decl = flat-empty (faults_of ds book) ds k d (none-declared ds book none) at in
    let of_code = flat-empty-in (faults_of_code ds book d) all_codes code of_decl (has_code code) in
    let found = subjects_at_fault code ds book d in
    none_in_order found
    (map-empty (λ m. faults_are.Declared code (kind_of d) (name_of_decl d) m) (in_text_order found) of_code)

-- ---- what no mention has

-- nothing is at fault of some mentions
abbrev IsFree : (Mention → Option Subject) → List Mention → Type 0
IsFree f ms = found_in f ms ≡ []

front-free : (f : Mention → Option Subject) (xs ys : List Mention) → IsFree f (xs ++ ys) → IsFree f xs
front-free f xs ys free = first-empty (found_in f xs) (found_in f ys) (sym (flat_map-append (λ m. option_to_list (f m)) xs ys) ∙ free)

back-free : (f : Mention → Option Subject) (xs ys : List Mention) → IsFree f (xs ++ ys) → IsFree f ys
back-free f xs ys free = append-empty (found_in f xs) (found_in f ys) (sym (flat_map-append (λ m. option_to_list (f m)) xs ys) ∙ free)

each-free : {X : Type 0} (f : Mention → Option Subject) (g : X → List Mention) (xs : List X) (k : ℕ) (x : X) → IsFree f (flat_map g xs)
    → slice_get xs k ≡ Some x → IsFree f (g x)
each-free f g [] k x free at = absurd (cc)
each-free f g (v ∷ xs) zero x free at = grind (arith, front-free)
each-free f g (v ∷ xs) (suc k) x free at = each-free f g xs k x (back-free f (g v) (flat_map g xs) free) at

one-free : {X : Type 0} (f : Mention → Option Subject) (g : X → Mention) (xs : List X) (k : ℕ) (x : X) → IsFree f (map g xs)
    → slice_get xs k ≡ Some x → f (g x) ≡ None
one-free f g [] k x free at = absurd (cc)
one-free f g (v ∷ xs) zero x free at = grind (arith, some-empty, first-empty)
one-free f g (v ∷ xs) (suc k) x free at =
    one-free f g xs k x (append-empty (option_to_list (f (g v))) (found_in f (map g xs)) free) at

-- nothing is at fault of what a bean declaration names
record AreFree (f : Mention → Option Subject) (bean : BeanDecl) : Type 0 where
  pub own : IsFree f (flat_map (of_point points_are.Constructor) bean.points)
  pub construct : IsFree f (of_parts places.Construct bean.construct)
  pub post : IsFree f (of_parts places.Post bean.post)
  pub pre : IsFree f (of_parts places.Pre bean.pre)
  pub methods : IsFree f (flat_map of_method bean.methods)
  pub producers : IsFree f (flat_map of_producer bean.producers)
  pub disposers : IsFree f (flat_map of_disposer bean.disposers)
  pub observers : IsFree f (flat_map of_observer bean.observers)

each-part-free : (f : Mention → Option Subject) (bean : BeanDecl) → IsFree f (mentions (decls.Bean bean)) → AreFree f bean
unfolding mentions
each-part-free f bean free =
    grind (arith, front-free, back-free)

-- nothing is at fault of what an interceptor declaration names
record AreFreeAround (f : Mention → Option Subject) (i : InterceptorDecl) : Type 0 where
  pub own : IsFree f (flat_map (of_point points_are.Constructor) i.points)
  pub around_invoke : IsFree f (of_parts places.AroundInvoke i.around_invoke)
  pub around_construct : IsFree f (of_parts places.AroundConstruct i.around_construct)
  pub post : IsFree f (of_parts places.Post i.post)
  pub pre : IsFree f (of_parts places.Pre i.pre)

each-part-free-around : (f : Mention → Option Subject) (i : InterceptorDecl) → IsFree f (mentions (decls.Interceptor i))
    → AreFreeAround f i
unfolding mentions
each-part-free-around f i free =
    grind (arith, i.bindings, i.points, i.around_invoke, i.around_construct, i.post, i.pre, back-free, front-free)

-- ---- enabled beans

managed-enabled : (ds : List Decl) (bean : BeanDecl) → (managed ds bean).is_enabled ≡ true
    → is_enabled_in (decls.Bean bean) (entries ds (decls.Bean bean)) None ≡ true
managed-enabled ds bean enabled = grind (arith, bean.producers, managed-producer)

one-enabled : (ds : List Decl) (bean : BeanDecl) (ps : List ProducerDecl) (k : ℕ) (p : ProducerDecl) → slice_get ps k ≡ Some p
    → (product ds bean p).is_enabled ≡ true → has_enabled (map (product ds bean) ps) (Some p.name) ≡ true
one-enabled ds bean [] k p at enabled = absurd (cc)
one-enabled ds bean (v ∷ ps) zero p at enabled = grind (arith, p.name, product-producer, same_text)
one-enabled ds bean (v ∷ ps) (suc k) p at enabled = grind (arith, one-enabled ds bean ps k p at enabled, p.name)

product-enabled : (ds : List Decl) (bean : BeanDecl) (k : ℕ) (p : ProducerDecl) → slice_get bean.producers k ≡ Some p
    → (product ds bean p).is_enabled ≡ true → is_enabled_in (decls.Bean bean) (entries ds (decls.Bean bean)) (Some p.name) ≡ true
product-enabled ds bean k p at enabled =
    or_right (option_eq bytes_eq (managed ds bean).id.producer (Some p.name) && (managed ds bean).is_enabled)
    (has_enabled (map (product ds bean) bean.producers) (Some p.name)) (one-enabled ds bean bean.producers k p at enabled)

-- ---- bodies

fit : (book : List Promised) (allowed : ℕ) (body : List ℕ) → is_fit allowed (promise_of book body) ≡ true → IsFit book allowed body
fit book allowed body e = grind (arith, nat_tests, false≢true, keeps_each)

-- the first of some mentions, where it is a body
fit-first : (book : List Promised) (d : Decl) (place : PartPlace) (body : List ℕ) (ms : List Mention)
    → IsFree (unfit_in book d) (BodyOf place body ∷ ms) → IsFit book (allowed_in d place) body
fit-first book d place body ms free = grind (arith, fit, not-false, not-found, some-empty, first-empty)

-- ---- injection points

one-chosen : (choice : Choice) → is_unsatisfied choice ≡ false → is_ambiguous choice ≡ false
    → (id : BeanId) × (choice ≡ choices.One id)
one-chosen (choices.One id) some single = (id, refl)
one-chosen choices.Unsatisfied some single = absurd (true≢false some)
one-chosen (choices.Ambiguous ids) some single = absurd (true≢false single)

abbrev unsatisfied : PointDecl → Choice → Bool
unsatisfied point choice = is_unsatisfied choice

abbrev ambiguous : PointDecl → Choice → Bool
ambiguous point choice = is_ambiguous choice

-- what is at fault of the points of a declaration, or of its call sites, by what is chosen for each
abbrev at_points : (PointDecl → Choice → Bool) → List Decl → Decl → Mention → Option Subject
at_points test ds d = point_in test (answer_to ds) (entries ds d) d

abbrev at_calls : List Decl → Decl → Mention → Option Subject
at_calls ds d = lost_in ds (answer_to ds) (entries ds d) d

where-enabled : (enabled test : Bool) → enabled ≡ true → (enabled && test) ≡ false → test ≡ false
where-enabled enabled test is e = grind (arith, false≢true)

-- no point of what is enabled has a choice that the test finds
none-found : (test : PointDecl → Choice → Bool) (ds : List Decl) (d : Decl) (place : PointPlace) (points : List PointDecl) (k : ℕ)
    (point : PointDecl) → is_enabled_in d (entries ds d) (producer_of_point place) ≡ true
    → IsFree (at_points test ds d) (flat_map (of_point place) points) → slice_get points k ≡ Some point
    → test point (answer_to ds point) ≡ false
none-found test ds d place points k point enabled free at =
    let is = is_enabled_in d (entries ds d) (producer_of_point place) in
    let such = test point (answer_to ds point) in
    let subject = subjects.Point place point.name in
    where-enabled is such enabled (not-found (is && such) subject (some-empty (some_if (is && such) subject)
    (first-empty _ (found_in (at_points test ds d) (TypeIn types_are.Required point.required_type ∷ of_qualifiers point.qualifiers))
    (each-free (at_points test ds d) (of_point place) points k point free at))))

satisfied : (ds : List Decl) (d : Decl) (place : PointPlace) (points : List PointDecl)
    → is_enabled_in d (entries ds d) (producer_of_point place) ≡ true
    → IsFree (at_points unsatisfied ds d) (flat_map (of_point place) points)
    → IsFree (at_points ambiguous ds d) (flat_map (of_point place) points) → AreSatisfied ds points
satisfied ds d place points enabled some single k point at =
    let one = one-chosen (answer_to ds point)
    (none-found unsatisfied ds d place points k point enabled some at)
    (none-found ambiguous ds d place points k point enabled single at) in
    record { id = one.0; chosen = one.1 }

-- ---- call sites

led : (ds : List Decl) (points : List PointDecl) (call : CallDecl) → is_lost ds (answer_to ds) points call ≡ false
    → IsLed ds points call
led ds points call found = grind (arith, call.point, call.method, true≢false, not-false)

-- each call site of a body of what is enabled, where none is lost
all-led : (ds : List Decl) (d : Decl) (place : PartPlace) (params : List PointDecl) (calls : List CallDecl)
    → is_enabled_in d (entries ds d) (producer_of_part place) ≡ true → IsFree (at_calls ds d) (map (CallOf place params) calls)
    → (k : ℕ) (call : CallDecl) → slice_get calls k ≡ Some call → IsLed ds (points_seen place params (own_points d)) call
all-led ds d place params calls enabled free k call at = grind (arith, call.point, call.method, led, where-enabled, not-found, one-free)

fine-part : (ds : List Decl) (book : List Promised) (d : Decl) (place : PartPlace) (params : List PointDecl) (part : PartDecl)
    → IsShortPart part → is_enabled_in d (entries ds d) (producer_of_part place) ≡ true
    → IsFree (unfit_in book d) (of_part place params part) → IsFree (at_calls ds d) (of_part place params part)
    → IsFinePart ds book (allowed_in d place) (points_seen place params (own_points d)) part
fine-part ds book d place params part short enabled fits found =
    let calls = map (CallOf place params) part.calls in
    let events = flat_map of_event part.fires in
    record {
      body = fit-first book d place part.body (calls ++ events) fits;
      short = short;
      calls = all-led ds d place params part.calls enabled (front-free (at_calls ds d) calls events found);
    }

-- a part that may be there
fine-some : (ds : List Decl) (book : List Promised) (d : Decl) (place : PartPlace) (o : Option PartDecl)
    → ((part : PartDecl) → o ≡ Some part → IsShortPart part) → is_enabled_in d (entries ds d) (producer_of_part place) ≡ true
    → IsFree (unfit_in book d) (of_parts place o) → IsFree (at_calls ds d) (of_parts place o) → (part : PartDecl) → o ≡ Some part
    → IsFinePart ds book (allowed_in d place) (points_seen place [] (own_points d)) part
fine-some ds book d place None short enabled fits found part is = absurd (cc)
fine-some ds book d place (Some p) short enabled fits found part is =
    let same : p ≡ part = cc in
    subst (IsFinePart ds book (allowed_in d place) (points_seen place [] (own_points d))) same
    (fine-part ds book d place [] p (short p refl) enabled fits found)

-- ---- what is known of a bean

-- nothing of the bean has one of these codes
record HasNone (ds : List Decl) (book : List Promised) (bean : BeanDecl) : Type 0 where
  pub body : AreFree (unfit_in book (decls.Bean bean)) bean
  pub unsatisfied : AreFree (at_points unsatisfied ds (decls.Bean bean)) bean
  pub ambiguous : AreFree (at_points ambiguous ds (decls.Bean bean)) bean
  pub site : AreFree (at_calls ds (decls.Bean bean)) bean

-- of what a method names its body stands last
method-body : (f : Mention → Option Subject) (m : MethodDecl) → IsFree f (of_method m)
    → IsFree f (of_part (places.Method m.name) [] m.part)
method-body f m free =
    back-free f (MethodOf m ∷ of_bindings m.bindings) (of_part (places.Method m.name) [] m.part) free

producer-body : (f : Mention → Option Subject) (p : ProducerDecl) → IsFree f (of_producer p)
    → IsFree f (of_part (part_place_of p) p.params p.part)
producer-body f p free = grind (arith, p.product_type, p.attributes, p.bindings, p.name, p.params, p.part, back-free)

producer-params : (f : Mention → Option Subject) (p : ProducerDecl) → IsFree f (of_producer p)
    → IsFree f (flat_map (of_point (points_are.Producer p.name)) p.params)
producer-params f p free = grind (arith, p.product_type, p.attributes, p.bindings, p.name, p.params, p.part, back-free, front-free)

observer-body : (f : Mention → Option Subject) (o : ObserverDecl) → IsFree f (of_observer o)
    → IsFree f (of_part (places.Observer o.name) o.params o.part)
observer-body f o free = grind (arith, o.event_type, o.qualifiers, o.bindings, o.name, o.params, o.part, back-free)

observer-params : (f : Mention → Option Subject) (o : ObserverDecl) → IsFree f (of_observer o)
    → IsFree f (flat_map (of_point (points_are.Observer o.name)) o.params)
observer-params f o free = grind (arith, o.event_type, o.qualifiers, o.bindings, o.name, o.params, o.part, back-free, front-free)

disposer-body : (book : List Promised) (bean : BeanDecl) (s : DisposerDecl) → IsFree (unfit_in book (decls.Bean bean)) (of_disposer s)
    → IsFit book flags.at_disposal s.body
disposer-body book bean s free =
    let d = decls.Bean bean in
    fit-first book d (places.Disposer s.name) s.body [] (back-free (unfit_in book d)
    (TypeIn types_are.Disposed s.product_type ∷ of_qualifiers s.qualifiers) (BodyOf (places.Disposer s.name) s.body ∷ []) free)

fine-observer : (ds : List Decl) (book : List Promised) (bean : BeanDecl) (k : ℕ) (observer : ObserverDecl) → HasNone ds book bean
    → IsShortBean bean → slice_get bean.observers k ≡ Some observer → (managed ds bean).is_enabled ≡ true
    → IsFineObserver ds book bean observer
fine-observer ds book bean k observer none short at on =
    let d = decls.Bean bean in
    let enabled = managed-enabled ds bean on in
    let own = short.observers k observer at in
    let of = λ (f : Mention → Option Subject) (free : AreFree f bean).
    each-free f of_observer bean.observers k observer free.observers at in
    record {
      params = satisfied ds d (points_are.Observer observer.name) observer.params enabled
          (observer-params (at_points unsatisfied ds d) observer (of (at_points unsatisfied ds d) none.unsatisfied))
          (observer-params (at_points ambiguous ds d) observer (of (at_points ambiguous ds d) none.ambiguous));
      few = own.params;
      part = fine-part ds book d (places.Observer observer.name) observer.params observer.part own.part enabled
          (observer-body (unfit_in book d) observer (of (unfit_in book d) none.body))
          (observer-body (at_calls ds d) observer (of (at_calls ds d) none.site));
    }

fine-managed : (ds : List Decl) (book : List Promised) (bean : BeanDecl) → HasNone ds book bean → IsShortBean bean
    → (managed ds bean).is_enabled ≡ true → IsFineManaged ds book bean
fine-managed ds book bean none short on =
    let d = decls.Bean bean in
    let enabled = managed-enabled ds bean on in
    record {
      points = satisfied ds d points_are.Constructor bean.points enabled none.unsatisfied.own none.ambiguous.own;
      construct = fine-some ds book d places.Construct bean.construct short.construct enabled none.body.construct none.site.construct;
      post = fine-some ds book d places.Post bean.post short.post enabled none.body.post none.site.post;
      pre = fine-some ds book d places.Pre bean.pre short.pre enabled none.body.pre none.site.pre;
      methods = λ k method at. fine-part ds book d (places.Method method.name) [] method.part (short.methods k method at) enabled
          (method-body (unfit_in book d) method (each-free (unfit_in book d) of_method bean.methods k method none.body.methods at))
          (method-body (at_calls ds d) method (each-free (at_calls ds d) of_method bean.methods k method none.site.methods at));
      observers = λ k observer at. fine-observer ds book bean k observer none short at on;
    }

-- what is allowed to a producer method, and what it sees
fine-method : (ds : List Decl) (book : List Promised) (bean : BeanDecl) (p : ProducerDecl)
    → IsFinePart ds book (allowed_in (decls.Bean bean) (part_place_of p)) (points_seen (part_place_of p) p.params bean.points) p.part
    → IsFinePart ds book (allowed_to p) (seen_by bean p) p.part
fine-method ds book bean p fine = grind (arith, p.is_static, p.name, p.params, bean.points, p.part)

-- a producer method belongs to its product, whether it is static or not
of-product : (p : ProducerDecl) → producer_of_part (part_place_of p) ≡ Some p.name
of-product p = grind (arith, p.is_static, p.name)

fine-producer : (ds : List Decl) (book : List Promised) (bean : BeanDecl) (k : ℕ) (producer : ProducerDecl)
    → HasNone ds book bean
    → IsShortBean bean → slice_get bean.producers k ≡ Some producer → (product ds bean producer).is_enabled ≡ true
    → IsFineProducer ds book bean producer
fine-producer ds book bean k producer none short at on =
    let d = decls.Bean bean in
    let enabled = product-enabled ds bean k producer at on in
    let own = short.producers k producer at in
    let of = λ (f : Mention → Option Subject) (free : AreFree f bean).
    each-free f of_producer bean.producers k producer free.producers at in
    record {
      params = satisfied ds d (points_are.Producer producer.name) producer.params enabled
          (producer-params (at_points unsatisfied ds d) producer (of (at_points unsatisfied ds d) none.unsatisfied))
          (producer-params (at_points ambiguous ds d) producer (of (at_points ambiguous ds d) none.ambiguous));
      few = own.params;
      part = fine-method ds book bean producer (fine-part ds book d (part_place_of producer) producer.params producer.part own.part
          (ap (is_enabled_in d (entries ds d)) (of-product producer) ∙ enabled)
          (producer-body (unfit_in book d) producer (of (unfit_in book d) none.body))
          (producer-body (at_calls ds d) producer (of (at_calls ds d) none.site)));
      disposers = λ j disposer here. disposer-body book bean disposer
          (each-free (unfit_in book d) of_disposer bean.disposers j disposer none.body.disposers here);
    }

-- ---- what is known of an interceptor

-- nothing of it has one of these codes
record HasNoneAround (ds : List Decl) (book : List Promised) (i : InterceptorDecl) : Type 0 where
  pub body : AreFreeAround (unfit_in book (decls.Interceptor i)) i
  pub unsatisfied : AreFreeAround (at_points unsatisfied ds (decls.Interceptor i)) i
  pub ambiguous : AreFreeAround (at_points ambiguous ds (decls.Interceptor i)) i
  pub site : AreFreeAround (at_calls ds (decls.Interceptor i)) i

fine-around : (ds : List Decl) (book : List Promised) (i : InterceptorDecl) → HasNoneAround ds book i → IsShortInterceptor i
    → is_enabled i ≡ true → IsFineAround ds book i
fine-around ds book i none short enabled =
    let d = decls.Interceptor i in
    record {
      points = satisfied ds d points_are.Constructor i.points enabled none.unsatisfied.own none.ambiguous.own;
      around_invoke = fine-some ds book d places.AroundInvoke i.around_invoke short.around_invoke enabled
          none.body.around_invoke none.site.around_invoke;
      around_construct = fine-some ds book d places.AroundConstruct i.around_construct short.around_construct enabled
          none.body.around_construct none.site.around_construct;
      post = fine-some ds book d places.Post i.post short.post enabled none.body.post none.site.post;
      pre = fine-some ds book d places.Pre i.pre short.pre enabled none.body.pre none.site.pre;
    }

-- ---- the law

pub are_fine : (ds : List Decl) (book : List Promised) → AreShort ds → faults ds book ≡ [] → AreFine ds book
are_fine ds book short none k bean at =
    let d = decls.Bean bean in
    let of : HasNone ds book bean = record {
      body = each-part-free (unfit_in book d) bean (none-at-fault ds book k d codes_of.Body none at);
      unsatisfied = each-part-free (at_points unsatisfied ds d) bean (none-at-fault ds book k d codes_of.Unsatisfied none at);
      ambiguous = each-part-free (at_points ambiguous ds d) bean (none-at-fault ds book k d codes_of.Ambiguous none at);
      site = each-part-free (at_calls ds d) bean (none-at-fault ds book k d codes_of.Site none at);
    } in
    let few : IsShortBean bean = short k d at in
    record {
      managed_bean = λ enabled. fine-managed ds book bean of few enabled;
      products = λ j producer here enabled. fine-producer ds book bean j producer of few here enabled;
    }

pub are_fine_around : (ds : List Decl) (book : List Promised) → AreShort ds → faults ds book ≡ [] → AreFineAround ds book
are_fine_around ds book short none k i at enabled =
    let d = decls.Interceptor i in
    let of : HasNoneAround ds book i = record {
      body = each-part-free-around (unfit_in book d) i (none-at-fault ds book k d codes_of.Body none at);
      unsatisfied = each-part-free-around (at_points unsatisfied ds d) i (none-at-fault ds book k d codes_of.Unsatisfied none at);
      ambiguous = each-part-free-around (at_points ambiguous ds d) i (none-at-fault ds book k d codes_of.Ambiguous none at);
      site = each-part-free-around (at_calls ds d) i (none-at-fault ds book k d codes_of.Site none at);
    } in
    fine-around ds book i of (short k d at) enabled

pub faultless_is_sound : FaultlessIsSound
faultless_is_sound ds book distinct short none =
    fine_is_sound ds book distinct (are_fine ds book short none) (are_fine_around ds book short none)
