-- The parts of a name, one after another.
use Rattle.cdi_live.proofs.Common.{◌≡◌, Bool, false, ◌&&◌, List, [], ◌∷◌, is_some, refl, sym, ap, ◌∙◌, list_any, false≢true, ℕ}
use Rattle.cdi_live.proofs.Common.{◌||◌, Option, Some, None, zero, suc, ◌+◌, slice_get, arith, option_copied, take}
use Rattle.std.specs.Borrow.{Bor}

-- one part more
any-after : {X : Type 0} (f : X → Bool) (xs : List X) (i : ℕ) (x : X) → slice_get xs i ≡ Some x
    → list_any f (take (suc i) xs) ≡ (list_any f (take i xs) || f x)
any-after f [] i x at = absurd (let no : None ≡ Some x = at in cc)
any-after f (y ∷ ys) zero x at = grind arith
any-after f (y ∷ ys) (suc i) x at = grind (arith, any-after f ys i x at)

pub any-next : {X : Type 0} (f : X → Bool) (xs : List X) (i : ℕ) (x : X) → slice_get xs i ≡ Some x
    → list_any f (take (i + 1) xs) ≡ (list_any f (take i xs) || f x)
any-next f xs i x at =
    let same : i + 1 ≡ suc i = omega arith in
    ap (λ n. list_any f (take n xs)) same ∙ any-after f xs i x at

-- no part is left
pub take-whole : {X : Type 0} (xs : List X) (i : ℕ) → slice_get xs i ≡ None → take i xs ≡ xs
take-whole [] zero none = refl
take-whole [] (suc i) none = refl
take-whole (x ∷ xs) zero none = absurd (let no : Some x ≡ None = none in cc)
take-whole (x ∷ xs) (suc i) none = ap (λ ys. x ∷ ys) (take-whole xs i none)

pub regroup : (g b l x : Bool) → ((g || (b && l)) || (b && x)) ≡ (g || (b && (l || x)))
regroup g b l x = grind arith

pub nothing-more : (g b : Bool) → g ≡ (g || (b && false))
nothing-more g b = grind arith

-- nothing is lent
pub none-copied : {X : Type 0} (o : Option (Bor X)) → is_some o ≡ false → option_copied o ≡ None
none-copied None e = refl
none-copied (Some x) e = absurd (false≢true (sym e))
