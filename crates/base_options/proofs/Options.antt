-- Options.
use Rattle.std.proofs.Common.{◌≡◌, Bool, true, false, cond, Option, Some, None, is_some, Decides, refl, sym, ap}
use Rattle.std.specs.Option.{option_eq, option_or}
use Rattle.std.proofs.lemmas.Bool.{false≢true, Decides.Decides-like}

pub none-from_is_some : {X : Type 0} (o : Option X) → is_some o ≡ false → o ≡ None
none-from_is_some None none = refl
none-from_is_some (Some x) none = absurd (false≢true (sym none))

-- one that is put in where there is none, before another
pub option_or-more : {X : Type 0} (old : Option X) (e : Bool) (x : X) (rest : Option X)
    → option_or (option_or old (cond e (Some x) None)) rest ≡ option_or old (cond e (Some x) rest)
option_or-more None true x rest = refl
option_or-more None false x rest = refl
option_or-more (Some y) e x rest = refl

pub option-decides : {X : Type 0} (eq : X → X → Bool) → ((x y : X) → Decides (eq x y) (x ≡ y)) → (a b : Option X)
    → Decides (option_eq eq a b) (a ≡ b)
option-decides eq d None None = (λ h. refl, λ e. refl)
option-decides eq d None (Some y) = (λ h. absurd (false≢true h), λ e. cc)
option-decides eq d (Some x) None = (λ h. absurd (false≢true h), λ e. cc)
option-decides eq d (Some x) (Some y) = Decides-like (eq x y) (λ e. ap Some e) (λ e. cc) (d x y)
