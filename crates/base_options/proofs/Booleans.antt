-- Truth values, and what is chosen by them.
use Rattle.std.proofs.Common.{◌≡◌, Bool, true, false, ◌&&◌, ◌||◌, cond, refl, sym, ap, ◌∙◌, Ordering, Less}
use Rattle.std.specs.Ordering.{is_lt}
use Rattle.std.proofs.{Math.Bool.or_assoc, Math.Bool.or_comm, lemmas.Bool.false≢true}

pub and-false : (b : Bool) → (b && false) ≡ false
and-false true = refl
and-false false = refl

pub or-left_comm : (x y z : Bool) → (x || (y || z)) ≡ (y || (x || z))
or-left_comm x y z = sym (or_assoc x y z) ∙ ap (λ b. b || z) (or_comm x y) ∙ or_assoc y x z

pub same-bool : (a b : Bool) → (a ≡ true → b ≡ true) → (b ≡ true → a ≡ true) → a ≡ b
same-bool true b f g = sym (f refl)
same-bool false true f g = g refl
same-bool false false f g = refl

pub cond-or : (is was : Bool) → cond is true was ≡ (was || is)
cond-or true true = refl
cond-or true false = refl
cond-or false true = refl
cond-or false false = refl

pub cond-twice : {X : Type 0} (e : Bool) (x y z : X) → cond e x (cond e y z) ≡ cond e x z
cond-twice true x y z = refl
cond-twice false x y z = refl

pub Less-from_is_lt : (o : Ordering) → is_lt o ≡ true → o ≡ Less
Less-from_is_lt Less e = refl
Less-from_is_lt other e = absurd (false≢true e)
