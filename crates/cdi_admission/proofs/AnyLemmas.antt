-- Tests of some element of a list that is made of others.
use Rattle.std.proofs.Common.{◌≡◌, ℕ, zero, suc, Bool, true, false, List, [], ◌∷◌, ◌++◌, map, Some, refl, ap, sym, ◌∙◌}
use Rattle.std.specs.List.{list_all, list_any, flat_map, slice_get}
use Rattle.std.proofs.lemmas.{Bool.and_parts, Bool.or_from, Bool.or_parts, List.Folds.list_any-append, Option.same_Some}
use Rattle.base_lists.proofs.Any.{any-map, any-flat_map}

-- ---- no element passes

-- no element passes the test
abbrev pub HasNone : {X : Type 0} → (X → Bool) → List X → Type 0
HasNone p xs = list_any p xs ≡ false

pub none-append : {X : Type 0} (p : X → Bool) (xs ys : List X) → HasNone p xs → HasNone p ys → HasNone p (xs ++ ys)
none-append p xs ys first then = list_any-append p xs ys ∙ or_from (list_any p xs) (list_any p ys) first then

pub append-none : {X : Type 0} (p : X → Bool) (xs ys : List X) → HasNone p (xs ++ ys) → HasNone p xs × HasNone p ys
append-none p xs ys none = or_parts (list_any p xs) (list_any p ys) (sym (list_any-append p xs ys) ∙ none)

pub none-map : {X Y : Type 0} (p : Y → Bool) (f : X → Y) (xs : List X) → HasNone (λ x. p (f x)) xs → HasNone p (map f xs)
none-map p f xs none = any-map p f xs ∙ none

pub none-flat_map : {X Y : Type 0} (p : Y → Bool) (f : X → List Y) (xs : List X) → HasNone (λ x. list_any p (f x)) xs
    → HasNone p (flat_map f xs)
none-flat_map p f xs none = any-flat_map p f xs ∙ none

-- no test is passed that nothing passes
pub none-false : {X : Type 0} (xs : List X) → HasNone (λ x. false) xs
none-false [] = refl
none-false (x ∷ xs) = none-false xs

-- what each element that passes one test doesn't pass, none of such elements passes
pub none-all : {X : Type 0} (q p : X → Bool) → ((x : X) → q x ≡ true → p x ≡ false) → (xs : List X) → list_all q xs ≡ true → HasNone p xs
none-all q p each [] all = refl
none-all q p each (x ∷ xs) all =
    let both = and_parts (q x) (list_all q xs) all in
    or_from (p x) (list_any p xs) (each x both.0) (none-all q p each xs both.1)

-- an element of such a list doesn't pass
pub none-at : {X : Type 0} (p : X → Bool) (xs : List X) (k : ℕ) (x : X) → HasNone p xs → slice_get xs k ≡ Some x → p x ≡ false
none-at p [] k x none e = absurd (cc)
none-at p (y ∷ ys) zero x none e = ap p (sym (same_Some y x e)) ∙ (or_parts (p y) (list_any p ys) none).0
none-at p (y ∷ ys) (suc k) x none e = none-at p ys k x (or_parts (p y) (list_any p ys) none).1 e
