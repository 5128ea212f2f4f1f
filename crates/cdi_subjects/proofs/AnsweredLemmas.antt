-- Of what a declaration names: its injection points stand in the order in which they are declared, and its call sites have no other
-- parameters than them.
use Rattle.std.proofs.Common.{arith, ◌≡◌, Bool, true, false, cond, List, [], ◌∷◌, ◌++◌, map, Option, Some, None, refl, sym, ap, subst, ◌∙◌}
use Rattle.std.proofs.Common.{append-nil, flat_map}
use Rattle.std.specs.{List.find, List.AllByRecursion, Option.option_to_list}
use Rattle.std.proofs.lemmas.{Bool.and_from, Bool.and_parts, Grind.flat_map-append, Option.none-some, Option.same_Some}
use Rattle.base_lists.proofs.Each.{all-append}
use Rattle.cdi_model.specs.Mentions.{Mention, TypeIn, UseOf, StereotypeOf, CallOf, mentions, listed_types, of_attributes, of_bindings}
use Rattle.cdi_model.specs.Mentions.{of_disposer, of_event, of_method, of_observer, of_part, of_parts, of_point, of_producer, of_qualifiers}
use Rattle.cdi_model.specs.{Mentions.part_place_of, declared.place.PartPlace.PartPlace, declared.quals.Qual.Qual}
use Rattle.cdi_model.specs.declared.decl.{Attributes.Attributes, BeanDecl.BeanDecl, CallDecl.CallDecl, Decl.Decl, DisposerDecl.DisposerDecl}
use Rattle.cdi_model.specs.declared.decl.{EventDecl.EventDecl, MethodDecl.MethodDecl, ObserverDecl.ObserverDecl, PartDecl.PartDecl}
use Rattle.cdi_model.specs.declared.{decl.PointDecl.PointDecl, decl.ProducerDecl.ProducerDecl, mention.PointPlace.PointPlace}
use Rattle.cdi_model.specs.declared.decl.Decl.TheVariants as decls
use Rattle.cdi_model.specs.declared.decl.UseKind.TheVariants as uses
use Rattle.cdi_model.specs.declared.mention.PointPlace.TheVariants as points_are
use Rattle.cdi_model.specs.declared.mention.TypePlace.TheVariants as types_are
use Rattle.cdi_model.specs.declared.place.PartPlace.TheVariants as parts_are
use Rattle.cdi_observe.specs.Wanted.{asked_by, key_of_point, point_named, points_of}
use Rattle.cdi_observe.specs.{Kept.Kept, Lending.are_answerable, Lending.is_answerable}
use Rattle.cdi_subjects.specs.Sites.{declared_points, own_points, observed, params_given, params_of}

-- ---- what holds of each

pub all-parts : {A : Type 0} (P : A → Type 0) (xs ys : List A) → AllByRecursion P (xs ++ ys) → AllByRecursion P xs × AllByRecursion P ys
all-parts P [] ys all = (tt, all)
all-parts P (x ∷ xs) ys all = let (front, back) = all-parts P xs ys all.1 in ((all.0, front), back)

-- ---- what some mentions name

-- The points among them are these, in order; and what holds of each of these and of some others holds of each parameter at a call site.
record Lists (P : PointDecl → Type 0) (others points : List PointDecl) (ms : List Mention) : Type 0 where
  named : flat_map point_named ms ≡ points
  given : AllByRecursion P others → AllByRecursion P points → AllByRecursion P (flat_map params_given ms)

-- what is neither a point nor a call site
abbrev IsPlain : Mention → Type 0
IsPlain m = (point_named m ≡ []) × (params_given m ≡ [])

module _ {P : PointDecl → Type 0} {others : List PointDecl} where
  none-listed : Lists P others [] []
  none-listed = record { named = refl; given = λ known all. tt }

  both-listed : {ps qs : List PointDecl} {xs ys : List Mention} → Lists P others ps xs → Lists P others qs ys
      → Lists P others (ps ++ qs) (xs ++ ys)
  both-listed {ps} {qs} {xs} {ys} first second = record {
    named =
        flat_map-append point_named xs ys
        ∙ ap (λ l. l ++ flat_map point_named ys) first.named
        ∙ ap (λ l. ps ++ l) second.named;
    given = λ known all.
        let (front, back) = all-parts P ps qs all in
        subst (AllByRecursion P) (sym (flat_map-append params_given xs ys))
        (all-append P (flat_map params_given xs) (flat_map params_given ys) (first.given known front) (second.given known back));
  }

  -- where the second has no points
  front-listed : {ps : List PointDecl} {xs ys : List Mention} → Lists P others ps xs → Lists P others [] ys → Lists P others ps (xs ++ ys)
  front-listed {ps} {xs} {ys} first second =
      subst (λ points. Lists P others points (xs ++ ys)) (append-nil ps) (both-listed first second)

  more-listed : {ps : List PointDecl} {ms : List Mention} (m : Mention) → IsPlain m → Lists P others ps ms → Lists P others ps (m ∷ ms)
  more-listed {ps} {ms} m (no_point, no_params) listed = grind (arith, listed.named, listed.given)

  plain-listed : {A : Type 0} (f : A → Mention) → ((x : A) → IsPlain (f x)) → (xs : List A) → Lists P others [] (map f xs)
  plain-listed f plain [] = none-listed
  plain-listed f plain (x ∷ xs) = more-listed (f x) (plain x) (plain-listed f plain xs)

  -- each of some parts
  each-listed : {A : Type 0} (points : A → List PointDecl) (f : A → List Mention) → ((x : A) → Lists P others (points x) (f x))
      → (xs : List A) → Lists P others (flat_map points xs) (flat_map f xs)
  each-listed points f listed [] = none-listed
  each-listed points f listed (x ∷ xs) = both-listed (listed x) (each-listed points f listed xs)

  -- each of some that have no points
  others-listed : {A : Type 0} (f : A → List Mention) → ((x : A) → Lists P others [] (f x)) → (xs : List A)
      → Lists P others [] (flat_map f xs)
  others-listed f listed [] = none-listed
  others-listed f listed (x ∷ xs) = both-listed (listed x) (others-listed f listed xs)

  bindings-listed : (us : List Qual) → Lists P others [] (of_bindings us)
  bindings-listed us = plain-listed (UseOf uses.Binding) (λ u. (refl, refl)) us

  qualifiers-listed : (us : List Qual) → Lists P others [] (of_qualifiers us)
  qualifiers-listed us = plain-listed (UseOf uses.Qualifier) (λ u. (refl, refl)) us

  attributes-listed : (a : Attributes) → Lists P others [] (of_attributes a)
  attributes-listed a =
      both-listed (both-listed (plain-listed (TypeIn types_are.Listed) (λ t. (refl, refl)) (listed_types a))
      (qualifiers-listed a.qualifiers))
      (plain-listed StereotypeOf (λ s. (refl, refl)) a.stereotypes)

  point-listed : (place : PointPlace) (p : PointDecl) → Lists P others (p ∷ []) (of_point place p)
  point-listed place p = grind (arith, p.qualifiers, qualifiers-listed)

  points-listed : (place : PointPlace) (ps : List PointDecl) → Lists P others ps (flat_map (of_point place) ps)
  points-listed place [] = none-listed
  points-listed place (p ∷ ps) = both-listed (point-listed place p) (points-listed place ps)

  event-listed : (e : EventDecl) → Lists P others [] (of_event e)
  event-listed e = more-listed _ (refl, refl) (more-listed _ (refl, refl) (qualifiers-listed e.qualifiers))

-- ---- what a declaration names

module _ {P : PointDecl → Type 0} where
  calls-listed : (place : PartPlace) (params : List PointDecl) (cs : List CallDecl) → Lists P params [] (map (CallOf place params) cs)
  calls-listed place params [] = none-listed
  calls-listed place params (c ∷ cs) = grind (arith, calls-listed place params cs, all-append)

  body-listed : (place : PartPlace) (params : List PointDecl) (part : PartDecl) → Lists P params [] (of_part place params part)
  body-listed place params part =
      more-listed _ (refl, refl) (both-listed (calls-listed place params part.calls) (others-listed of_event event-listed part.fires))

  part-listed : (place : PartPlace) (o : Option PartDecl) → Lists P [] [] (of_parts place o)
  part-listed place None = none-listed
  part-listed place (Some part) = body-listed place [] part

  -- where the others are its own points
  own-listed : {ps : List PointDecl} {ms : List Mention} → Lists P ps ps ms → Lists P [] ps ms
  own-listed listed = record { named = listed.named; given = λ known all. listed.given all all }

  method-listed : (m : MethodDecl) → Lists P [] [] (of_method m)
  method-listed m = more-listed _ (refl, refl) (both-listed (bindings-listed m.bindings) (body-listed (parts_are.Method m.name) [] m.part))

  producer-listed : (p : ProducerDecl) → Lists P [] p.params (of_producer p)
  producer-listed p =
      own-listed (front-listed
      (more-listed _ (refl, refl) (both-listed (both-listed (attributes-listed p.attributes) (bindings-listed p.bindings))
      (points-listed (points_are.Producer p.name) p.params)))
      (body-listed (part_place_of p) p.params p.part))

  disposer-listed : (s : DisposerDecl) → Lists P [] [] (of_disposer s)
  disposer-listed s = more-listed _ (refl, refl) (both-listed (qualifiers-listed s.qualifiers) (more-listed _ (refl, refl) none-listed))

  observer-listed : (o : ObserverDecl) → Lists P [] o.params (of_observer o)
  observer-listed o =
      own-listed (front-listed
      (more-listed _ (refl, refl) (both-listed (both-listed (qualifiers-listed o.qualifiers) (bindings-listed o.bindings))
      (points-listed (points_are.Observer o.name) o.params)))
      (body-listed (parts_are.Observer o.name) o.params o.part))

  bean-listed : (d : BeanDecl) → Lists P [] (declared_points (decls.Bean d)) (mentions (decls.Bean d))
  unfolding mentions
  bean-listed d =
      let class : Lists P [] [] (TypeIn types_are.Class d.name ∷ of_attributes d.attributes ++ of_bindings d.bindings) =
      more-listed _ (refl, refl) (both-listed (attributes-listed d.attributes) (bindings-listed d.bindings)) in
      let own = both-listed class (points-listed points_are.Constructor d.points) in
      let begun = both-listed (part-listed parts_are.Construct d.construct) (part-listed parts_are.Post d.post) in
      let bodies = front-listed own (both-listed begun (part-listed parts_are.Pre d.pre)) in
      let methods = front-listed bodies (others-listed of_method method-listed d.methods) in
      let produced = both-listed methods (each-listed (λ p. p.params) of_producer producer-listed d.producers) in
      let disposed = front-listed produced (others-listed of_disposer disposer-listed d.disposers) in
      both-listed disposed (each-listed (λ o. o.params) of_observer observer-listed d.observers)

  declared-listed : (d : Decl) → Lists P [] (declared_points d) (mentions d)
  unfolding mentions
  declared-listed (decls.Type d) =
      both-listed (plain-listed (TypeIn types_are.Extends) (λ t. (refl, refl)) (option_to_list d.extends))
      (plain-listed (TypeIn types_are.Implements) (λ t. (refl, refl)) d.implements)
  declared-listed (decls.Qualifier d) = none-listed
  declared-listed (decls.Binding d) = bindings-listed d.declares
  declared-listed (decls.Stereotype d) =
      both-listed (plain-listed StereotypeOf (λ s. (refl, refl)) d.stereotypes) (bindings-listed d.bindings)
  declared-listed (decls.Bean d) = bean-listed d
  declared-listed (decls.Interceptor d) =
      let around = both-listed (part-listed parts_are.AroundInvoke d.around_invoke)
      (part-listed parts_are.AroundConstruct d.around_construct) in
      front-listed (both-listed (bindings-listed d.bindings) (points-listed points_are.Constructor d.points))
      (both-listed (both-listed around (part-listed parts_are.Post d.post)) (part-listed parts_are.Pre d.pre))

-- the points of a declaration stand in the order in which they are declared
pub points-declared : (d : Decl) → points_of d ≡ declared_points d
points-declared d = (declared-listed {P = λ p. Unit {0}} d).named

-- ---- what holds of each point of a declaration

module _ (P : PointDecl → Type 0) where
  -- holds of those of a bean or an interceptor itself
  pub each-own : (d : Decl) → AllByRecursion P (points_of d) → AllByRecursion P (own_points d)
  each-own d all = by d (subst (AllByRecursion P) (points-declared d) all)
    where
      by : (e : Decl) → AllByRecursion P (declared_points e) → AllByRecursion P (own_points e)
      by (decls.Bean b) all =
          let (front, observers) = all-parts P (b.points ++ params_of b.producers) (observed b.observers) all in
          (all-parts P b.points (params_of b.producers) front).0
      by (decls.Interceptor i) all = all
      by other all = tt

  -- and of the parameters at its call sites
  pub each-given : (d : Decl) → AllByRecursion P (points_of d) → AllByRecursion P (flat_map params_given (mentions d))
  each-given d all = (declared-listed d).given tt (subst (AllByRecursion P) (points-declared d) all)

-- ---- what may be asked for

module _ (kept : Kept) where
  abbrev IsAskable : PointDecl → Type 0
  IsAskable p = is_answerable kept (key_of_point p) ≡ true

  each-askable : (ps : List PointDecl) → are_answerable kept (map key_of_point ps) ≡ true → AllByRecursion IsAskable ps
  each-askable [] all = tt
  each-askable (p ∷ ps) all =
      let (first, others) = and_parts (is_answerable kept (key_of_point p)) (are_answerable kept (map key_of_point ps)) all in
      (first, each-askable ps others)

  all-askable : (ps : List PointDecl) → AllByRecursion IsAskable ps → are_answerable kept (map key_of_point ps) ≡ true
  all-askable [] all = refl
  all-askable (p ∷ ps) all =
      and_from (is_answerable kept (key_of_point p)) (are_answerable kept (map key_of_point ps)) all.0 (all-askable ps all.1)

  pub own-answerable : (d : Decl) → are_answerable kept (asked_by d) ≡ true → are_answerable kept (map key_of_point (own_points d)) ≡ true
  own-answerable d all = all-askable (own_points d) (each-own IsAskable d (each-askable (points_of d) all))

  pub params-answerable : (d : Decl) → are_answerable kept (asked_by d) ≡ true
      → are_answerable kept (map key_of_point (flat_map params_given (mentions d))) ≡ true
  params-answerable d all =
      all-askable (flat_map params_given (mentions d)) (each-given IsAskable d (each-askable (points_of d) all))

  -- a point that is found among some, or else among others
  pub found-answerable : (test : PointDecl → Bool) (ps qs : List PointDecl) (p : PointDecl) → find test (ps ++ qs) ≡ Some p
      → are_answerable kept (map key_of_point ps) ≡ true → are_answerable kept (map key_of_point qs) ≡ true
      → is_answerable kept (key_of_point p) ≡ true
  found-answerable test ps qs p found first second =
      within (ps ++ qs) found (all-append IsAskable ps qs (each-askable ps first) (each-askable qs second))
    where
      within : (rs : List PointDecl) → find test rs ≡ Some p → AllByRecursion IsAskable rs → IsAskable p
      within [] found all = absurd (none-some p found)
      within (r ∷ rs) found all = by (test r) found (λ later. within rs later all.1)
        where
          by : (t : Bool) → cond t (Some r) (find test rs) ≡ Some p → (find test rs ≡ Some p → IsAskable p) → IsAskable p
          by true here later = subst IsAskable (same_Some r p here) all.0
          by false there later = later there
