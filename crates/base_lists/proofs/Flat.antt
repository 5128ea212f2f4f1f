-- What each element of a list gives, put together.
use Rattle.std.proofs.Common.{◌≡◌, Bool, true, false, cond, List, [], ◌∷◌, ◌++◌, map, filter, refl, sym, ap, ◌∙◌}
use Rattle.std.specs.List.{AllByRecursion, flat_map}
use Rattle.std.proofs.lemmas.Grind.{flat_map-append}

pub flat-empty : {X Y : Type 0} (f : X → List Y) (xs : List X) → AllByRecursion (λ x. f x ≡ []) xs → flat_map f xs ≡ []
flat-empty f [] none = refl
flat-empty f (x ∷ xs) none = ap (λ ys. ys ++ flat_map f xs) none.0 ∙ flat-empty f xs none.1

pub flat-same : {X Y : Type 0} (f g : X → List Y) (xs : List X) → ((x : X) → f x ≡ g x) → flat_map f xs ≡ flat_map g xs
flat-same f g [] same = refl
flat-same f g (x ∷ xs) same = λ i. same x i ++ flat-same f g xs same i

pub flat-twice : {X Y Z : Type 0} (g : Y → List Z) (f : X → List Y) (xs : List X)
    → flat_map g (flat_map f xs) ≡ flat_map (λ x. flat_map g (f x)) xs
flat-twice g f [] = refl
flat-twice g f (x ∷ xs) = flat_map-append g (f x) (flat_map f xs) ∙ ap (λ ys. flat_map g (f x) ++ ys) (flat-twice g f xs)

-- where those that are left out give nothing
pub flat-filter : {X Y : Type 0} (f : X → List Y) (p : X → Bool) (xs : List X) → AllByRecursion (λ x. p x ≡ false → f x ≡ []) xs
    → flat_map f (filter p xs) ≡ flat_map f xs
flat-filter f p [] none = refl
flat-filter f p (x ∷ xs) none = by (p x) refl (flat-filter f p xs none.1)
  where
    by : (b : Bool) → p x ≡ b → flat_map f (filter p xs) ≡ flat_map f xs
        → flat_map f (cond b (x ∷ filter p xs) (filter p xs)) ≡ f x ++ flat_map f xs
    by true e more = ap (λ ys. f x ++ ys) more
    by false e more = more ∙ ap (λ ys. ys ++ flat_map f xs) (sym (none.0 e))

-- two lists, of which nothing is left
pub append-empty : {X : Type 0} (xs ys : List X) → xs ++ ys ≡ [] → ys ≡ []
append-empty [] ys none = none
append-empty (x ∷ xs) ys some = absurd (let no : x ∷ (xs ++ ys) ≡ [] = some in cc)

pub map-empty : {X Y : Type 0} (f : X → Y) (xs : List X) → map f xs ≡ [] → xs ≡ []
map-empty f [] e = refl
map-empty f (x ∷ xs) e = absurd (cc)
