-- What the points, the bodies and the places of a declaration ask for may be asked, where all is evaluated.
use Rattle.cdi_staging.proofs.Common.{◌≡◌, ℕ, zero, suc, Bool, true, false, ◌||◌, List, [], ◌∷◌, ◌++◌, map, Option, Some, None, Contains}
use Rattle.cdi_staging.proofs.Common.{refl, sym, ap, subst, ◌∙◌, arith, IfSome, flat_map, list_any, slice_get, and_parts, false≢true}
use Rattle.cdi_staging.proofs.Common.{slice_get-get_or, AreDistinct, BeanDecl, Decl, InterceptorDecl, MethodDecl, ObserverDecl, PartDecl}
use Rattle.cdi_staging.proofs.Common.{PointDecl, ProducerDecl, BeanPlace, own-found, in_order, has_place, in_order-declared, are_answerable}
use Rattle.cdi_staging.proofs.Common.{key_of_event, key_of_point, chains-answerable, IsFireable}
use Rattle.std.specs.List.{list_all}
use Rattle.std.proofs.lemmas.{Bool.and_from, List.Folds.list_all-append, List.Folds.list_all-map}
use Rattle.cdi_model.specs.Mentions.{Mention, mentions, of_attributes, of_bindings, of_disposer, of_event, of_method, of_observer, of_part}
use Rattle.cdi_model.specs.Mentions.{of_parts, of_point, of_producer, of_qualifiers, part_place_of, CallOf, EventOf}
use Rattle.cdi_model.specs.declared.{decl.EventDecl.EventDecl, place.PartPlace.PartPlace}
use Rattle.cdi_model.specs.declared.decl.Decl.TheVariants as decls
use Rattle.cdi_model.specs.declared.mention.PointPlace.TheVariants as points_are
use Rattle.cdi_model.specs.declared.place.PartPlace.TheVariants as parts_are
use Rattle.cdi_intercept.specs.Sets.{places_of}
use Rattle.cdi_observe.specs.{Keys.Key, Keys.ChainKey, Keys.same_place, Kept.Kept, Lending.is_answerable, Lending.IsEvaluated}
use Rattle.cdi_observe.specs.Wanted.{event_in}
use Rattle.cdi_observe.proofs.{BeanPlaceLemmas.has-it, KeyLemmas.same_place-decides, FoundLemmas.IsFound}
use Rattle.cdi_observe.proofs.LendingLemmas.{events-answerable, points-answerable}
use Rattle.cdi_subjects.specs.Sites.{declared_points, observed, params_of}
use Rattle.cdi_subjects.proofs.AnsweredLemmas.{points-declared}

-- ---- parts of lists

module _ {X : Type 0} (p : X → Bool) where
  both : (xs ys : List X) → list_all p (xs ++ ys) ≡ true → (list_all p xs ≡ true) × (list_all p ys ≡ true)
  both xs ys all = and_parts (list_all p xs) (list_all p ys) (sym (list_all-append p xs ys) ∙ all)

  -- what each of some elements gives
  each : {Y : Type 0} (f : Y → List X) (ys : List Y) (y : Y) → list_all p (flat_map f ys) ≡ true → Contains ys y → list_all p (f y) ≡ true
  each f [] y all (k, within, at) = absurd (omega arith)
  each f (z ∷ ys) y all (zero, within, at) = ap (λ w. list_all p (f w)) (sym at) ∙ (both (f z) (flat_map f ys) all).0
  each f (z ∷ ys) y all (suc k, within, at) = each f ys y (both (f z) (flat_map f ys) all).1 (k, omega arith, at)

  all-each : {Y : Type 0} (f : Y → List X) (ys : List Y) → list_all p (flat_map f ys) ≡ true → list_all (λ y. list_all p (f y)) ys ≡ true
  all-each f [] all = refl
  all-each f (y ∷ ys) all =
      let parts = both (f y) (flat_map f ys) all in
      and_from (list_all p (f y)) (list_all (λ z. list_all p (f z)) ys) parts.0 (all-each f ys parts.1)

-- ---- points

abbrev pub AreAsked : Kept → List PointDecl → Type 0
AreAsked kept points = are_answerable kept (map key_of_point points) ≡ true

abbrev asks : Kept → PointDecl → Bool
asks kept point = is_answerable kept (key_of_point point)

asked : (kept : Kept) (points : List PointDecl) → list_all (asks kept) points ≡ true → AreAsked kept points
asked kept points all = list_all-map (is_answerable kept) key_of_point points ∙ all

declared-asked : (ds : List Decl) (kept : Kept) (d : Decl) → IsFound ds d → IsEvaluated ds kept
    → list_all (asks kept) (declared_points d) ≡ true
declared-asked ds kept d found evaluated = sym (list_all-map (is_answerable kept) key_of_point (declared_points d))
    ∙ subst (AreAsked kept) (points-declared d) (points-answerable ds kept d found evaluated)

-- the points of a bean, and the parameters of its methods
pub record AsksOfBean (kept : Kept) (bean : BeanDecl) : Type 0 where
  pub own : AreAsked kept bean.points
  pub products : (p : ProducerDecl) → Contains bean.producers p → AreAsked kept p.params
  pub observers : (o : ObserverDecl) → Contains bean.observers o → AreAsked kept o.params

pub bean-asked : (ds : List Decl) (kept : Kept) (bean : BeanDecl) → IsFound ds (decls.Bean bean) → IsEvaluated ds kept
    → AsksOfBean kept bean
bean-asked ds kept bean found evaluated =
    let params = params_of bean.producers in
    let second = both (asks kept) (bean.points ++ params) (observed bean.observers)
    (declared-asked ds kept (decls.Bean bean) found evaluated) in
    let first = both (asks kept) bean.points params second.0 in
    record {
      own = asked kept bean.points first.0;
      products = λ p at. asked kept p.params (each (asks kept) (λ q. q.params) bean.producers p first.1 at);
      observers = λ o at. asked kept o.params (each (asks kept) (λ q. q.params) bean.observers o second.1 at);
    }

flat-asked : (kept : Kept) (is : List InterceptorDecl) → ((k : ℕ) (i : InterceptorDecl) → slice_get is k ≡ Some i
    → list_all (asks kept) i.points ≡ true) → list_all (asks kept) (flat_map (λ i. i.points) is) ≡ true
flat-asked kept [] all = refl
flat-asked kept (i ∷ is) all =
    list_all-append (asks kept) i.points (flat_map (λ j. j.points) is)
    ∙ and_from (list_all (asks kept) i.points) (list_all (asks kept) (flat_map (λ j. j.points) is)) (all zero i refl)
    (flat-asked kept is (λ k j at. all (suc k) j at))

interceptor-found : (ds : List Decl) (k : ℕ) (i : InterceptorDecl) → AreDistinct ds → slice_get (in_order ds) k ≡ Some i
    → IsFound ds (decls.Interceptor i)
interceptor-found ds k i distinct at =
    let declared = (in_order-declared ds k i at).0 in
    own-found ds declared.0 (decls.Interceptor i) distinct declared.1

-- the points of the interceptors that are enabled
pub interceptors-asked : (ds : List Decl) (kept : Kept) → AreDistinct ds → IsEvaluated ds kept
    → AreAsked kept (flat_map (λ i. i.points) (in_order ds))
interceptors-asked ds kept distinct evaluated = asked kept (flat_map (λ i. i.points) (in_order ds)) (flat-asked kept (in_order ds)
    (λ k i at. declared-asked ds kept (decls.Interceptor i) (interceptor-found ds k i distinct at) evaluated))

-- ---- events

-- the event that is named in a place, if one is, may be asked for
abbrev fires : Kept → Mention → Bool
fires kept mention = are_answerable kept (event_in mention)

declared-fired : (ds : List Decl) (kept : Kept) (d : Decl) → IsFound ds d → IsEvaluated ds kept → list_all (fires kept) (mentions d) ≡ true
declared-fired ds kept d found evaluated =
    all-each (is_answerable kept) event_in (mentions d) (events-answerable ds kept d found evaluated)

events-fired : (kept : Kept) (es : List EventDecl) → list_all (fires kept) (flat_map of_event es) ≡ true
    → are_answerable kept (map key_of_event es) ≡ true
events-fired kept [] all = refl
events-fired kept (e ∷ es) all =
    let parts = both (fires kept) (of_event e) (flat_map of_event es) all in
    let first = and_parts (fires kept (EventOf e)) (list_all (fires kept) (of_qualifiers e.qualifiers)) parts.0 in
    let own = and_parts (is_answerable kept (key_of_event e)) true first.0 in
    and_from (is_answerable kept (key_of_event e)) (are_answerable kept (map key_of_event es)) own.0 (events-fired kept es parts.1)

part-fired : (kept : Kept) (place : PartPlace) (params : List PointDecl) (part : PartDecl)
    → list_all (fires kept) (of_part place params part) ≡ true → IsFireable kept part
part-fired kept place params part all =
    events-fired kept part.fires (both (fires kept) (map (CallOf place params) part.calls) (flat_map of_event part.fires) all).1

parts-fired : (kept : Kept) (place : PartPlace) (o : Option PartDecl) → list_all (fires kept) (of_parts place o) ≡ true
    → IfSome o (IsFireable kept)
parts-fired kept place None all = tt
parts-fired kept place (Some part) all = part-fired kept place [] part all

-- the events that the bodies of a bean may fire
pub record FiresOfBean (kept : Kept) (bean : BeanDecl) : Type 0 where
  pub construct : IfSome bean.construct (IsFireable kept)
  pub post : IfSome bean.post (IsFireable kept)
  pub pre : IfSome bean.pre (IsFireable kept)
  pub methods : (m : MethodDecl) → Contains bean.methods m → IsFireable kept m.part
  pub products : (p : ProducerDecl) → Contains bean.producers p → IsFireable kept p.part
  pub observers : (o : ObserverDecl) → Contains bean.observers o → IsFireable kept o.part

pub bean-fired : (ds : List Decl) (kept : Kept) (bean : BeanDecl) → IsFound ds (decls.Bean bean) → IsEvaluated ds kept
    → FiresOfBean kept bean
unfolding mentions
bean-fired ds kept bean found evaluated =
    let test = fires kept in
    let own = of_attributes bean.attributes ++ of_bindings bean.bindings ++ flat_map (of_point points_are.Constructor) bean.points in
    let construct = of_parts parts_are.Construct bean.construct in
    let post = of_parts parts_are.Post bean.post in
    let pre = of_parts parts_are.Pre bean.pre in
    let methods = flat_map of_method bean.methods in
    let producers = flat_map of_producer bean.producers in
    let disposers = flat_map of_disposer bean.disposers in
    let bodies = own ++ (construct ++ post ++ pre) in
    let last = both test (bodies ++ methods ++ producers ++ disposers) (flat_map of_observer bean.observers)
    (declared-fired ds kept (decls.Bean bean) found evaluated) in
    let fourth = both test (bodies ++ methods ++ producers) disposers last.0 in
    let third = both test (bodies ++ methods) producers fourth.0 in
    let second = both test bodies methods third.0 in
    let first = both test own (construct ++ post ++ pre) second.0 in
    let callbacks = both test (construct ++ post) pre first.1 in
    let begins = both test construct post callbacks.0 in
    record {
      construct = parts-fired kept parts_are.Construct bean.construct begins.0;
      post = parts-fired kept parts_are.Post bean.post begins.1;
      pre = parts-fired kept parts_are.Pre bean.pre callbacks.1;
      methods = λ m at. part-fired kept (parts_are.Method m.name) [] m.part
          (both test (of_bindings m.bindings) (of_part (parts_are.Method m.name) [] m.part)
          (each test of_method bean.methods m second.1 at)).1;
      products = λ p at. part-fired kept (part_place_of p) p.params p.part
          (both test (of_attributes p.attributes ++ of_bindings p.bindings ++ flat_map (of_point (points_are.Producer p.name)) p.params)
          (of_part (part_place_of p) p.params p.part) (each test of_producer bean.producers p third.1 at)).1;
      observers = λ o at. part-fired kept (parts_are.Observer o.name) o.params o.part
          (both test (of_qualifiers o.qualifiers ++ of_bindings o.bindings ++ flat_map (of_point (points_are.Observer o.name)) o.params)
          (of_part (parts_are.Observer o.name) o.params o.part) (each test of_observer bean.observers o last.1 at)).1;
    }

-- those that the bodies of an interceptor may fire
pub record FiresOfInterceptor (kept : Kept) (i : InterceptorDecl) : Type 0 where
  pub around_invoke : IfSome i.around_invoke (IsFireable kept)
  pub around_construct : IfSome i.around_construct (IsFireable kept)
  pub post : IfSome i.post (IsFireable kept)
  pub pre : IfSome i.pre (IsFireable kept)

pub interceptor-fired : (ds : List Decl) (kept : Kept) (i : InterceptorDecl) → AreDistinct ds → Contains (in_order ds) i
    → IsEvaluated ds kept → FiresOfInterceptor kept i
unfolding mentions
interceptor-fired ds kept i distinct (k, within, at) evaluated =
    let found = interceptor-found ds k i distinct (slice_get-get_or (in_order ds) k i within ∙ ap Some at) in
    let test = fires kept in
    let own = of_bindings i.bindings ++ flat_map (of_point points_are.Constructor) i.points in
    let invoke = of_parts parts_are.AroundInvoke i.around_invoke in
    let construct = of_parts parts_are.AroundConstruct i.around_construct in
    let post = of_parts parts_are.Post i.post in
    let pre = of_parts parts_are.Pre i.pre in
    let all = both test own (invoke ++ construct ++ post ++ pre) (declared-fired ds kept (decls.Interceptor i) found evaluated) in
    let last = both test (invoke ++ construct ++ post) pre all.1 in
    let third = both test (invoke ++ construct) post last.0 in
    let first = both test invoke construct third.0 in
    record {
      around_invoke = parts-fired kept parts_are.AroundInvoke i.around_invoke first.0;
      around_construct = parts-fired kept parts_are.AroundConstruct i.around_construct first.1;
      post = parts-fired kept parts_are.Post i.post third.1;
      pre = parts-fired kept parts_are.Pre i.pre last.1;
    }

-- ---- places

all-any : (test : Key → Bool) (f : BeanPlace → Key) (place : BeanPlace) (places : List BeanPlace)
    → list_any (same_place place) places ≡ true → list_all test (map f places) ≡ true → test (f place) ≡ true
all-any test f place [] any all = absurd (false≢true any)
all-any test f place (p ∷ places) any all =
    let parts = and_parts (test (f p)) (list_all test (map f places)) all in
    by (same_place place p) refl parts.0 (λ more. all-any test f place places more parts.1) any
  where
    by : (b : Bool) → same_place place p ≡ b → test (f p) ≡ true
        → (list_any (same_place place) places ≡ true → test (f place) ≡ true)
        → (b || list_any (same_place place) places) ≡ true → test (f place) ≡ true
    by true is here later more = ap (λ q. test (f q)) ((same_place-decides place p).0 is) ∙ here
    by false is here later more = later more

-- the interceptors around a place of a bean
pub place-answerable : (ds : List Decl) (kept : Kept) (bean : BeanDecl) (place : BeanPlace) → IsFound ds (decls.Bean bean)
    → IsEvaluated ds kept → has_place bean place ≡ true → is_answerable kept (ChainKey bean.name place) ≡ true
place-answerable ds kept bean place found evaluated has =
    all-any (is_answerable kept) (ChainKey bean.name) place (places_of bean) (has-it bean place ∙ has)
    (chains-answerable ds kept (decls.Bean bean) found evaluated)
