-- The parts of a scene, and where their call sites lead.
use Rattle.cdi_staging.proofs.Common.{◌≡◌, ℕ, Bool, true, false, ◌||◌, List, [], ◌∷◌, ◌++◌, map, Option, Some, None, refl, sym, ap, subst}
use Rattle.cdi_staging.proofs.Common.{◌∙◌, arith, list_any, slice_get, false≢true, AreDistinct, BeanDecl, Decl, MethodDecl, PartDecl}
use Rattle.cdi_staging.proofs.Common.{PointDecl, cond, length, find, position, option_or, same_Some, unwrap_or, bytes_eq, Promised, beans}
use Rattle.cdi_staging.proofs.Common.{find_bean, BeanId, One, position_of_bean, managed_form, scene_of, is_some, option_map, slice_get-map}
use Rattle.cdi_staging.proofs.Common.{targets, bit_and, Has, Part, Via, Own, Param, IsFinePart, fired_at, site_of, staged_part, Target}
use Rattle.cdi_staging.proofs.Common.{HasMethod, CallSite, method_of, ◌≤◌, length-map, list_limit, is_named, promise_of, IsSoundPart}
use Rattle.cdi_staging.proofs.Common.{Notified, answer_to, IsFit, AreSatisfied, target_of, is_method, is_point, part_of, part_with}
use Rattle.cdi_staging.proofs.Common.{staged_method, at-map}
use Rattle.std.proofs.Common.{codes}
use Rattle.cdi_model.specs.declared.decl.CallDecl.{CallDecl}
use Rattle.cdi_bodies.specs.declared.promise.Promise.{Promise}
use Rattle.cdi_scene.specs.Sound.{AreObservers, IsInBook, IsSoundSite}
use Rattle.cdi_subjects.specs.Sites.{has_method, methods_in}
use Rattle.cdi_staging.proofs.BesideLemmas.{of-find, no-position, find-append}
use Rattle.cdi_staging.proofs.{ChosenLemmas.Reached, ChosenLemmas.chosen-offered, ChosenLemmas.reached, NotifiedLemmas.notified_stand}
use Rattle.cdi_staging.specs.Sites.{Sight, nowhere, class_with, method_declared, site_at, site_among, target_at}
use Rattle.cdi_staging.specs.Faultless.{IsSatisfied, IsLed}

-- ---- bodies

pub from-option : {X Y : Type 0} (f : X → Y) (o : Option X) (y : Y) → option_map f o ≡ Some y → (x : X) × (o ≡ Some x) × (f x ≡ y)
from-option f None y e = absurd (cc)
from-option f (Some x) y e = (x, refl, cc)

-- a part that was made of a body in the book
pub record IsMade (book : List Promised) (calls : List CallSite) (fires : List (List Notified)) (promise : Promise)
    (part : Part) : Type 0 where
  pub body : IsInBook book part
  pub calls_are : part.calls ≡ calls
  pub fires_are : part.fires ≡ fires
  pub promise_is : part.promise ≡ promise

pub part-made : (book : List Promised) (calls : List CallSite) (fires : List (List Notified)) (allowed : ℕ) (name : List ℕ) (part : Part)
    (fit : IsFit book allowed name) → part_of book calls fires name ≡ Some part → IsMade book calls fires fit.promise part
unfolding part_of
part-made book calls fires allowed name part fit e =
    let kept = from-option (λ b. b.1) (find (is_named name) book) fit.promise fit.found in
    let at = of-find (is_named name) book kept.0 kept.1 in
    let value : at.value ≡ kept.0 = same_Some at.value kept.0 (sym at.find_is ∙ kept.1) in
    let body : Part = record { body = at.place; promise = fit.promise; calls = calls; fires = fires } in
    let made : Some body ≡ Some part = sym (ap (λ o. part_with calls fires o (promise_of book name)) at.position_is
    ∙ ap (part_with calls fires (Some at.place)) fit.found) ∙ e in
    let is : body ≡ part = same_Some body part made in
    let there : slice_get book at.place ≡ Some (kept.0.0, fit.promise) = at.there ∙ ap Some value
    ∙ ap (λ p. Some (kept.0.0, p)) kept.2 in
    subst (IsMade book calls fires fit.promise) is (record {
      body = record { name = kept.0.0; found = there };
      calls_are = refl;
      fires_are = refl;
      promise_is = refl;
    })

-- ---- call sites

-- the target of the injection point or of the parameter that a call site names
abbrev pub NamesVia : List Target → List Target → Via → ℕ → Type 0
NamesVia own params (Own p) b = (t : Target) × (slice_get own p ≡ Some t) × (t.bean ≡ b)
NamesVia own params (Param p) b = (t : Target) × (slice_get params p ≡ Some t) × (t.bean ≡ b)

-- the bean of a call site was chosen for what it names, of these injection points and parameters
abbrev pub Names : List Decl → List PointDecl → List PointDecl → CallSite → Type 0
Names ds points params site = NamesVia (targets ds points) (targets ds params) site.via site.bean

-- the site is sound, and leads where it says
abbrev IsGoodSite : List Decl → List Promised → List PointDecl → List PointDecl → CallSite → Type 0
IsGoodSite ds book points params site = IsSoundSite (scene_of ds book) site × Names ds points params site

-- a managed bean of the class declares a method of the name
record Declares (ds : List Decl) (class name : List ℕ) : Type 0 where
  pub bean : BeanDecl
  pub is : find_bean class ds ≡ Some bean
  pub method : MethodDecl
  pub found : find (is_method name) bean.methods ≡ Some method

-- where one passes, one is found
any-found : {X : Type 0} (p : X → Bool) (xs : List X) → list_any p xs ≡ true → (x : X) × (find p xs ≡ Some x)
any-found p [] e = absurd (false≢true e)
any-found {X = X} p (v ∷ xs) e = by (p v) (any-found p xs) e
  where
    by : (b : Bool) → (list_any p xs ≡ true → (x : X) × (find p xs ≡ Some x)) → (b || list_any p xs) ≡ true
        → (x : X) × (cond b (Some v) (find p xs) ≡ Some x)
    by true rest is = (v, refl)
    by false rest is = rest is

-- a managed bean declares each method that it has
declares : (ds : List Decl) (id : BeanId) (name : List ℕ) → id.producer ≡ None → has_method ds id name ≡ true
    → Declares ds id.class name
declares ds id name none has = by (find_bean id.class ds) refl listed
  where
    methods : List MethodDecl
    methods = methods_in (find_bean id.class ds)

    listed : list_any (is_method name) methods ≡ true
    listed = sym (ap (λ o. cond (is_some o) (bytes_eq name (codes "value")) (list_any (is_method name) methods)) none) ∙ has

    by : (o : Option BeanDecl) → find_bean id.class ds ≡ o → list_any (is_method name) (methods_in o) ≡ true
        → Declares ds id.class name
    by None is any = absurd (false≢true any)
    by (Some bean) is any =
        let method = any-found (is_method name) bean.methods any in
        record { bean = bean; is = is; method = method.0; found = method.1 }

-- the method is there that the call site names, if the bean is a managed one
pub method-there : (ds : List Decl) (book : List Promised) (id : BeanId) (name : List ℕ) (r : Reached ds book id) (via : Via)
    → has_method ds id name ≡ true → (o : Option (List ℕ)) → id.producer ≡ o
    → HasMethod (scene_of ds book)
    (record { via = via; bean = position_of_bean (beans ds) id; method = method_of ds (class_with id.class o) name })
    r.bean.form
unfolding method_of managed_form
method-there ds book id name r via has None e =
    let m = r.of_managed e in
    let d = declares ds id name e has in
    let same : d.bean ≡ m.decl = same_Some d.bean m.decl (sym d.is ∙ m.is) in
    let found : find (is_method name) m.decl.methods ≡ Some d.method = ap (λ b. find (is_method name) b.methods) (sym same) ∙ d.found in
    let at = of-find (is_method name) m.decl.methods d.method found in
    let place : method_declared (find_bean id.class ds) name ≡ at.place = ap (λ o. method_declared o name) m.is
    ∙ ap (λ o. unwrap_or o (length m.decl.methods)) at.position_is in
    let made = staged_method ds book m.decl in
    subst (λ form. HasMethod (scene_of ds book)
    (record { via = via; bean = position_of_bean (beans ds) id; method = method_declared (find_bean id.class ds) name }) form)
    (sym m.form) (
      made at.value,
      ap (slice_get (map made m.decl.methods)) place ∙ slice_get-map made m.decl.methods at.place
          ∙ ap (option_map made) at.there,
    )
method-there ds book id name r via has (Some p) e = grind (arith, r.of_product)

-- what is chosen for a satisfied injection point stands in the scene
pub point-reached : (ds : List Decl) (book : List Promised) (point : PointDecl) → AreDistinct ds → (sat : IsSatisfied ds point)
    → Reached ds book sat.id
point-reached ds book point distinct sat =
    reached ds book sat.id distinct (chosen-offered ds (beans ds) point.required_type point.qualifiers sat.id sat.chosen)

site-sound : (ds : List Decl) (book : List Promised) (point : PointDecl) (via : Via) (name : List ℕ) → AreDistinct ds → IsSatisfied ds point
    → ((id : BeanId) → answer_to ds point ≡ One id → has_method ds id name ≡ true)
    → IsSoundSite (scene_of ds book) (site_at ds via (target_of (beans ds) (answer_to ds point)) name)
unfolding site_at target_of
site-sound ds book point via name distinct sat has =
    let r = point-reached ds book point distinct sat in
    subst (λ choice. IsSoundSite (scene_of ds book) (site_at ds via (target_of (beans ds) choice) name)) (sym sat.chosen)
    (record {
      bean = r.bean;
      there = r.there;
      method = method-there ds book sat.id name r via (has sat.id sat.chosen) sat.id.producer refl;
    })

pub target-there : (ds : List Decl) (points : List PointDecl) (k : ℕ) (point : PointDecl) → slice_get points k ≡ Some point
    → slice_get (targets ds points) k ≡ Some (target_of (beans ds) (answer_to ds point))
target-there ds points k point at = slice_get-map (target_of (beans ds)) (map (answer_to ds) points) k
    ∙ ap (option_map (target_of (beans ds))) (slice_get-map (answer_to ds) points k ∙ ap (option_map (answer_to ds)) at)

-- what a body sees of some injection points and parameters
abbrev pub seen : List Decl → List PointDecl → List PointDecl → Sight
seen ds points params = record { points = points; targets = targets ds points; params = params; param_targets = targets ds params }

led-site : (ds : List Decl) (book : List Promised) (points params list : List PointDecl) (call : CallDecl) (point : PointDecl) (via : Via)
    (k : ℕ) (value : PointDecl) → AreDistinct ds → AreSatisfied ds list → slice_get list k ≡ Some value → value ≡ point
    → ((id : BeanId) → answer_to ds point ≡ One id → has_method ds id call.method ≡ true)
    → ((t : Target) → slice_get (targets ds list) k ≡ Some t → NamesVia (targets ds points) (targets ds params) via t.bean)
    → IsGoodSite ds book points params (site_at ds via (target_at (beans ds) (targets ds list) k) call.method)
unfolding site_at
led-site ds book points params list call point via k value distinct satisfied at same has names =
    let there = target-there ds list k value at in
    subst (λ t. IsGoodSite ds book points params (site_at ds via t call.method))
    (sym (ap (λ o. unwrap_or o (nowhere (beans ds))) there)) (
      site-sound ds book value via call.method distinct (satisfied k value at)
          (subst (λ p. (id : BeanId) → answer_to ds p ≡ One id → has_method ds id call.method ≡ true) (sym same) has),
      names (target_of (beans ds) (answer_to ds value)) there,
    )

is-good-site : (ds : List Decl) (book : List Promised) (points params : List PointDecl) (call : CallDecl) → AreDistinct ds
    → AreSatisfied ds points → AreSatisfied ds params → IsLed ds (params ++ points) call
    → IsGoodSite ds book points params (site_of ds (beans ds) (seen ds points params) call)
unfolding site_of
is-good-site ds book points params call distinct own_points own_params led = by (find (is_point call.point) params) refl
  where
    by : (o : Option PointDecl) → find (is_point call.point) params ≡ o
        → IsGoodSite ds book points params
        (site_among ds (beans ds) (seen ds points params) call (position (is_point call.point) params))
    by (Some q) e =
        let at = of-find (is_point call.point) params q e in
        let both : Some at.value ≡ Some led.point = sym (ap (λ o. option_or o (find (is_point call.point) points)) at.find_is)
        ∙ sym (find-append (is_point call.point) params points) ∙ led.sees in
        subst (λ o. IsGoodSite ds book points params (site_among ds (beans ds) (seen ds points params) call o)) (sym at.position_is)
        (led-site ds book points params params call led.point (Param at.place) at.place at.value distinct own_params at.there
        (same_Some at.value led.point both) led.has (λ t is. (t, is, refl)))
    by None e =
        let there : find (is_point call.point) points ≡ Some led.point = sym (ap (λ o. option_or o (find (is_point call.point) points)) e)
        ∙ sym (find-append (is_point call.point) params points) ∙ led.sees in
        let at = of-find (is_point call.point) points led.point there in
        let value : at.value ≡ led.point = same_Some at.value led.point (sym at.find_is ∙ there) in
        subst (λ o. IsGoodSite ds book points params (site_among ds (beans ds) (seen ds points params) call o))
        (sym (no-position (is_point call.point) params e))
        (subst (λ k. IsGoodSite ds book points params
        (site_at ds (Own k) (target_at (beans ds) (targets ds points) k) call.method))
        (sym (ap (λ o. unwrap_or o (length points)) at.position_is))
        (led-site ds book points params points call led.point (Own at.place) at.place at.value distinct own_points at.there value
        led.has (λ t is. (t, is, refl))))

-- ---- parts

-- a sound part with these acts, which sees these injection points and parameters
pub record IsSoundFor (ds : List Decl) (book : List Promised) (allowed : ℕ) (points params : List PointDecl) (part : Part) : Type 0 where
  pub sound : IsSoundPart book (scene_of ds book) part
  pub kept : (flag : ℕ) → Has part.promise flag → bit_and allowed flag ≡ flag
  pub names : (k : ℕ) (site : CallSite) → slice_get part.calls k ≡ Some site → Names ds points params site

pub part-sound : (ds : List Decl) (book : List Promised) (allowed : ℕ) (points params : List PointDecl) (part : PartDecl) (made : Part)
    → AreDistinct ds → AreSatisfied ds points → AreSatisfied ds params → IsFinePart ds book allowed (params ++ points) part
    → staged_part ds book (seen ds points params) part ≡ Some made → IsSoundFor ds book allowed points params made
unfolding staged_part
part-sound ds book allowed points params part made distinct own_points own_params fine e =
    let lead = site_of ds (beans ds) (seen ds points params) in
    let notify = fired_at ds (beans ds) in
    let m = part-made book (map lead part.calls) (map notify part.fires) allowed part.body made fine.body e in
    let good : (k : ℕ) (site : CallSite) → slice_get made.calls k ≡ Some site → IsGoodSite ds book points params site =
    λ k site at.
    let found = at-map lead part.calls k site (sym (ap (λ cs. slice_get cs k) m.calls_are) ∙ at) in
    subst (IsGoodSite ds book points params) found.2
    (is-good-site ds book points params found.0 distinct own_points own_params (fine.calls k found.0 found.1)) in
    record {
      sound = record {
        body = m.body;
        few_calls = subst (λ n. n ≤ list_limit) (sym (ap length m.calls_are ∙ length-map part.calls lead)) fine.short.calls;
        few_fires = subst (λ n. n ≤ list_limit) (sym (ap length m.fires_are ∙ length-map part.fires notify)) fine.short.fires;
        calls = λ k site at. (good k site at).0;
        fires = λ k os at.
            let found = at-map notify part.fires k os (sym (ap (λ fs. slice_get fs k) m.fires_are) ∙ at) in
            subst (AreObservers (scene_of ds book)) found.2
            (notified_stand ds book found.0.event_type found.0.qualifiers distinct);
      };
      kept = λ flag has. fine.body.kept flag (subst (λ p. Has p flag) m.promise_is has);
      names = λ k site at. (good k site at).1;
    }

-- a disposer method's part has no call site and no fire site
pub disposer-sound : (ds : List Decl) (book : List Promised) (allowed : ℕ) (name : List ℕ) (made : Part) → IsFit book allowed name
    → part_of book [] [] name ≡ Some made → IsSoundFor ds book allowed [] [] made
disposer-sound ds book allowed name made fit e =
    let m = part-made book [] [] allowed name made fit e in
    record {
      sound = record {
        body = m.body;
        few_calls = subst (λ cs. length cs ≤ list_limit) (sym m.calls_are) (omega arith);
        few_fires = subst (λ fs. length fs ≤ list_limit) (sym m.fires_are) (omega arith);
        calls = λ k site at.
            let none : None ≡ Some site = sym (ap (λ cs. slice_get cs k) m.calls_are) ∙ at in
            absurd (cc);
        fires = λ k os at.
            let none : None ≡ Some os = sym (ap (λ fs. slice_get fs k) m.fires_are) ∙ at in
            absurd (cc);
      };
      kept = λ flag has. fit.kept flag (subst (λ p. Has p flag) m.promise_is has);
      names = λ k site at.
          let none : None ≡ Some site = sym (ap (λ cs. slice_get cs k) m.calls_are) ∙ at in
          absurd (cc);
    }
