-- What holds of each binding that a bean writes holds of those at each of its places.
use Rattle.cdi_report.proofs.Common.{◌≡◌, Bool, false, List, [], ◌∷◌, ◌++◌, flat_map, Option, Some, None, IfSome, option_map}
use Rattle.cdi_report.proofs.Common.{AllByRecursion, key_at, is_among, mentions, Mention, name_of_use, BeanDecl, DeclKey, Qual}
use Rattle.cdi_report.proofs.Common.{IsBindingSpared, BeanPlace, TypeIn, not, ◌&&◌, find, bytes_eq, ProducerDecl, own_at, arith}
use Rattle.base_lists.proofs.Each.{all-front, all-back}
use Rattle.cdi_model.specs.Mentions.{of_attributes, of_bindings, of_disposer, of_method, of_observer, of_part, of_parts, of_point}
use Rattle.cdi_model.specs.{Mentions.of_producer, declared.decl.MethodDecl.MethodDecl, declared.decl.ObserverDecl.ObserverDecl}
use Rattle.cdi_model.specs.declared.decl.Decl.TheVariants as decls
use Rattle.cdi_model.specs.declared.decl.Kind.TheVariants as kinds
use Rattle.cdi_model.specs.declared.mention.PointPlace.TheVariants as points
use Rattle.cdi_model.specs.declared.mention.TypePlace.TheVariants as types
use Rattle.cdi_model.specs.declared.place.BeanPlace.TheVariants as places
use Rattle.cdi_model.specs.declared.place.PartPlace.TheVariants as parts

-- what holds of all that some things lead to holds of what one leads to that is found
all-found : {A B : Type 0} (P : B → Type 0) (f : A → List B) (test : A → Bool) (xs : List A) → AllByRecursion P (flat_map f xs)
    → IfSome (find test xs) (λ x. AllByRecursion P (f x))
all-found P f test [] all = tt
all-found P f test (x ∷ xs) all = grind (arith, all-found P f test xs (all-back P (f x) (flat_map f xs) all), all-back, all-front)

module _ (told : List DeclKey) where
  -- no binding type of some uses is affected
  abbrev pub AreSpared : List Qual → Type 0
  AreSpared us = AllByRecursion (λ u. is_among told (key_at kinds.Binding (name_of_use u)) ≡ false) us

  abbrev Spared : Mention → Type 0
  Spared = IsBindingSpared told

  spared-uses : (us : List Qual) → AllByRecursion Spared (of_bindings us) → AreSpared us
  spared-uses [] all = tt
  spared-uses (u ∷ us) all = (all.0, spared-uses us all.1)

  of-method : (m : MethodDecl) → AllByRecursion Spared (of_method m) → AreSpared m.bindings
  of-method m all = spared-uses m.bindings
      (all-front Spared (of_bindings m.bindings) (of_part (parts.Method m.name) [] m.part) all.1)

  of-producer : (p : ProducerDecl) → AllByRecursion Spared (of_producer p) → AreSpared p.bindings
  of-producer p all = grind (arith, p.name, p.params, p.part, p.product_type, p.attributes, p.bindings, spared-uses, all-back, all-front)

  of-observer : (o : ObserverDecl) → AllByRecursion Spared (of_observer o) → AreSpared o.bindings
  of-observer o all = grind (arith, o.name, o.params, o.part, o.event_type, o.qualifiers, o.bindings, spared-uses, all-back, all-front)

  found-spared : {A : Type 0} (bindings : A → List Qual) (leads : A → List Mention)
      → ((x : A) → AllByRecursion Spared (leads x) → AreSpared (bindings x)) → (o : Option A)
      → IfSome o (λ x. AllByRecursion Spared (leads x)) → IfSome (option_map bindings o) AreSpared
  found-spared bindings leads each None all = tt
  found-spared bindings leads each (Some x) all = each x all

  module _ (d : BeanDecl) (all : AllByRecursion Spared (mentions (decls.Bean d))) where
    abbrev of-bean : List Mention
    of-bean = TypeIn types.Class d.name ∷ of_attributes d.attributes ++ of_bindings d.bindings
        ++ flat_map (of_point points.Constructor) d.points
        ++ (of_parts parts.Construct d.construct ++ of_parts parts.Post d.post ++ of_parts parts.Pre d.pre)

    abbrev with-methods : List Mention
    with-methods = of-bean ++ flat_map of_method d.methods

    abbrev with-producers : List Mention
    with-producers = with-methods ++ flat_map of_producer d.producers

    abbrev with-disposers : List Mention
    with-disposers = with-producers ++ flat_map of_disposer d.disposers

    whole : AllByRecursion Spared (with-disposers ++ flat_map of_observer d.observers)
    unfolding mentions
    whole = all

    producers : AllByRecursion Spared with-producers
    producers = all-front Spared with-producers (flat_map of_disposer d.disposers)
        (all-front Spared with-disposers (flat_map of_observer d.observers) whole)

    pub own-spared : (place : BeanPlace) → IfSome (own_at d place) AreSpared
    own-spared places.Construct = tt
    own-spared places.Post = tt
    own-spared places.Pre = tt
    own-spared (places.Method name) = found-spared (λ m. m.bindings) of_method of-method (find (λ m. bytes_eq m.name name) d.methods)
        (all-found Spared of_method (λ m. bytes_eq m.name name) d.methods
        (all-back Spared of-bean (flat_map of_method d.methods)
        (all-front Spared with-methods (flat_map of_producer d.producers) producers)))
    own-spared (places.Producer name) =
        found-spared (λ p. p.bindings) of_producer of-producer (find (λ p. bytes_eq p.name name && not p.is_static) d.producers)
        (all-found Spared of_producer (λ p. bytes_eq p.name name && not p.is_static) d.producers
        (all-back Spared with-methods (flat_map of_producer d.producers) producers))
    own-spared (places.Observer name) =
        found-spared (λ o. o.bindings) of_observer of-observer (find (λ o. bytes_eq o.name name) d.observers)
        (all-found Spared of_observer (λ o. bytes_eq o.name name) d.observers
        (all-back Spared with-disposers (flat_map of_observer d.observers) whole))
