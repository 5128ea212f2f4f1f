-- The places of a bean.
use Rattle.cdi_observe.proofs.Common.{◌≡◌, Bool, true, false, not, ◌&&◌, ◌||◌, List, [], ◌∷◌, ◌++◌, map, refl, sym, ap, ◌∙◌, AllByRecursion}
use Rattle.cdi_observe.proofs.Common.{list_any, bytes_eq, or_left, or_right, list_any-append, BeanDecl, BeanPlace, or-false, has_place}
use Rattle.cdi_observe.proofs.Common.{places_of, filter, same_place, methods_of, observers_of, producers_of, arith}
use Rattle.std.proofs.Common.{is_some, option_map}
use Rattle.std.specs.List.{find}
use Rattle.base_numbers.proofs.Texts.{bytes_eq-turned}
use Rattle.cdi_model.specs.declared.decl.{MethodDecl.MethodDecl, ObserverDecl.ObserverDecl, ProducerDecl.ProducerDecl}
use Rattle.cdi_model.specs.declared.place.BeanPlace.TheVariants as places
use Rattle.cdi_observe.proofs.KeyLemmas.{same_place-decides}

found-any : {X : Type 0} {Y : Type 0} (q r : X → Bool) (f : X → Y) (xs : List X) → ((x : X) → q x ≡ r x)
    → list_any q xs ≡ is_some (option_map f (find r xs))
found-any q r f [] same = refl
found-any {X = X} {Y = Y} q r f (x ∷ xs) same = grind (arith, found-any q r f xs same)

module _ (place : BeanPlace) where
  abbrev is : BeanPlace → Bool
  is p = same_place place p

  three : (xs ys zs : List BeanPlace) → list_any is (xs ++ ys ++ zs) ≡ ((list_any is xs || list_any is ys) || list_any is zs)
  three xs ys zs = list_any-append is (xs ++ ys) zs ∙ ap (λ b. b || list_any is zs) (list_any-append is xs ys)

  none-of : {X : Type 0} (f : X → BeanPlace) (xs : List X) → ((x : X) → is (f x) ≡ false) → list_any is (map f xs) ≡ false
  none-of f [] none = refl
  none-of f (x ∷ xs) none = ap (λ b. b || list_any is (map f xs)) (none x) ∙ none-of f xs none

  mapped : {X : Type 0} (f : X → BeanPlace) (q : X → Bool) (xs : List X) → ((x : X) → is (f x) ≡ q x)
      → list_any is (map f xs) ≡ list_any q xs
  mapped f q [] same = refl
  mapped f q (x ∷ xs) same = λ i. same x i || mapped f q xs same i

filtered : {X : Type 0} (q t : X → Bool) (xs : List X) → list_any q (filter t xs) ≡ list_any (λ x. q x && t x) xs
filtered q t [] = refl
filtered {X = X} q t (x ∷ xs) = grind (arith, filtered q t xs)

-- a place is among those of a bean exactly where the bean has it
pub has-it : (b : BeanDecl) (place : BeanPlace) → list_any (same_place place) (places_of b) ≡ has_place b place
has-it b places.Construct = refl
has-it b places.Post = refl
has-it b places.Pre = refl
has-it b (places.Method name) =
    let place = places.Method name in
    three place (methods_of b) (producers_of b) (observers_of b)
    ∙ ap (λ c. (list_any (same_place place) (methods_of b) || c) || list_any (same_place place) (observers_of b))
    (none-of place (λ (r : ProducerDecl). places.Producer r.name) (filter (λ r. not r.is_static) b.producers) (λ r. refl))
    ∙ ap (λ c. (list_any (same_place place) (methods_of b) || false) || c)
    (none-of place (λ (o : ObserverDecl). places.Observer o.name) b.observers (λ o. refl))
    ∙ or-false (list_any (same_place place) (methods_of b) || false) ∙ or-false (list_any (same_place place) (methods_of b))
    ∙ mapped place (λ (m : MethodDecl). places.Method m.name) (λ m. bytes_eq name m.name) b.methods (λ m. refl)
    ∙ found-any (λ (m : MethodDecl). bytes_eq name m.name) (λ m. bytes_eq m.name name) (λ m. m.bindings) b.methods
    (λ m. bytes_eq-turned name m.name)
has-it b (places.Producer name) =
    let place = places.Producer name in
    let own : List ProducerDecl = filter (λ r. not r.is_static) b.producers in
    three place (methods_of b) (producers_of b) (observers_of b)
    ∙ ap (λ c. (c || list_any (same_place place) (producers_of b)) || list_any (same_place place) (observers_of b))
    (none-of place (λ (m : MethodDecl). places.Method m.name) b.methods (λ m. refl))
    ∙ ap (λ c. list_any (same_place place) (producers_of b) || c)
    (none-of place (λ (o : ObserverDecl). places.Observer o.name) b.observers (λ o. refl))
    ∙ or-false (list_any (same_place place) (producers_of b))
    ∙ mapped place (λ (r : ProducerDecl). places.Producer r.name) (λ r. bytes_eq name r.name) own (λ r. refl)
    ∙ filtered (λ (r : ProducerDecl). bytes_eq name r.name) (λ r. not r.is_static) b.producers
    ∙ found-any (λ (r : ProducerDecl). bytes_eq name r.name && not r.is_static) (λ r. bytes_eq r.name name && not r.is_static)
    (λ r. r.bindings)
    b.producers (λ r. ap (λ c. c && not r.is_static) (bytes_eq-turned name r.name))
has-it b (places.Observer name) =
    let place = places.Observer name in
    three place (methods_of b) (producers_of b) (observers_of b)
    ∙ ap (λ c. (c || list_any (same_place place) (producers_of b)) || list_any (same_place place) (observers_of b))
    (none-of place (λ (m : MethodDecl). places.Method m.name) b.methods (λ m. refl))
    ∙ ap (λ c. c || list_any (same_place place) (observers_of b))
    (none-of place (λ (r : ProducerDecl). places.Producer r.name) (filter (λ r. not r.is_static) b.producers) (λ r. refl))
    ∙ mapped place (λ (o : ObserverDecl). places.Observer o.name) (λ o. bytes_eq name o.name) b.observers (λ o. refl)
    ∙ found-any (λ (o : ObserverDecl). bytes_eq name o.name) (λ o. bytes_eq o.name name) (λ o. o.bindings) b.observers
    (λ o. bytes_eq-turned name o.name)

each-place : (P : BeanPlace → Type 0) (ps : List BeanPlace) → ((p : BeanPlace) → list_any (same_place p) ps ≡ true → P p)
    → AllByRecursion P ps
each-place P [] each = tt
each-place P (p ∷ ps) each = (
  each p (or_left (same_place p p) (list_any (same_place p) ps) ((same_place-decides p p).1 refl)),
  each-place P ps (λ q h. each q (or_right (same_place q p) (list_any (same_place q) ps) h)),
)

-- so it has each of its places
pub has-each_place : (b : BeanDecl) → AllByRecursion (λ place. has_place b place ≡ true) (places_of b)
has-each_place b = each-place (λ place. has_place b place ≡ true) (places_of b) (λ place h. sym (has-it b place) ∙ h)
