-- The names of what goes.
use Rattle.cdi_live.proofs.Common.{◌≡◌, true, ◌&&◌, List, [], ◌∷◌, sym, ap, ◌∙◌, inl, inr, list_any, bytes_eq, and_parts, false≢true}
use Rattle.cdi_live.proofs.Common.{or_cases, or_left, or_right, BeanPlace, Qual, ℕ, ◌||◌, Option, Some, has, bytes_decides, same_place}
use Rattle.cdi_live.proofs.Common.{zero, suc, same_quals, is_gone_chain, GoneChain, is_gone, Gone, option_copied, slice_get, arith}
use Rattle.std.specs.Option.{option_eq}
use Rattle.std.proofs.Common.{Bor}

-- a name that is one of some others is among them
among : (names : List (List ℕ)) (k : ℕ) (name n : List ℕ) → option_eq bytes_eq (slice_get names k) (Some name) ≡ true
    → bytes_eq name n ≡ true → has names n ≡ true
among [] k name n same is = absurd (false≢true same)
among (x ∷ names) zero name n same is =
    or_left (bytes_eq x n) (has names n) (ap (λ y. bytes_eq y n) ((bytes_decides x name).0 same) ∙ is)
among (x ∷ names) (suc k) name n same is = or_right (bytes_eq x n) (has names n) (among names k name n same is)

-- so that it need not be appended after itself
pub already-there : (names list : List (List ℕ)) (k : ℕ) (last : Option (Bor (List ℕ))) (name : Bor (List ℕ)) → list ≡ names
    → option_copied last ≡ slice_get list k → option_eq (λ x y. bytes_eq x.now y.now) last (Some name) ≡ true
    → (n : List ℕ) → has names n ≡ (has names n || bytes_eq name.now n)
already-there names list k last name are found same n = grind (arith, name.now, false≢true, among)

-- ---- what goes

turned : (a b : List ℕ) → bytes_eq a b ≡ true → bytes_eq b a ≡ true
turned a b same = (bytes_decides b a).1 (sym ((bytes_decides a b).0 same))

-- the type of a choice or event that goes is among the types
type-of-one : (gone : List Gone) (t : List ℕ) (us : List Qual) → is_gone gone t us ≡ true
    → list_any (λ g. bytes_eq g.bean_type t) gone ≡ true
type-of-one [] t us h = absurd (false≢true h)
type-of-one (g ∷ gone) t us h =
    elim (or_cases (bytes_eq t g.bean_type && same_quals us g.uses) (is_gone gone t us) h) [
      | inl here ↦ or_left (bytes_eq g.bean_type t) (list_any (λ x. bytes_eq x.bean_type t) gone)
          (turned t g.bean_type (and_parts (bytes_eq t g.bean_type) (same_quals us g.uses) here).0)
      | inr later ↦ or_right (bytes_eq g.bean_type t) (list_any (λ x. bytes_eq x.bean_type t) gone) (type-of-one gone t us later)
    ]

-- the class of a chain that goes is among the classes
class-of-one : (gone : List GoneChain) (class : List ℕ) (place : BeanPlace) → is_gone_chain gone class place ≡ true
    → list_any (λ g. bytes_eq g.class class) gone ≡ true
class-of-one [] class place h = absurd (false≢true h)
class-of-one (g ∷ gone) class place h =
    elim (or_cases (bytes_eq class g.class && same_place place g.place) (is_gone_chain gone class place) h) [
      | inl here ↦ or_left (bytes_eq g.class class) (list_any (λ x. bytes_eq x.class class) gone)
          (turned class g.class (and_parts (bytes_eq class g.class) (same_place place g.place) here).0)
      | inr later ↦ or_right (bytes_eq g.class class) (list_any (λ x. bytes_eq x.class class) gone) (class-of-one gone class place later)
    ]

-- ---- as it is listed

pub types-moved : (gone list : List Gone) (names moved : List (List ℕ)) → list ≡ gone → moved ≡ names
    → ((t : List ℕ) → has names t ≡ list_any (λ g. bytes_eq g.bean_type t) list)
    → (t : List ℕ) (us : List Qual) → is_gone gone t us ≡ true → has moved t ≡ true
types-moved gone list names moved of_gone are named t us one =
    ap (λ ns. has ns t) are ∙ named t ∙ ap (list_any (λ g. bytes_eq g.bean_type t)) of_gone ∙ type-of-one gone t us one

pub classes-moved : (gone list : List GoneChain) (names moved : List (List ℕ)) → list ≡ gone → moved ≡ names
    → ((class : List ℕ) → has names class ≡ list_any (λ g. bytes_eq g.class class) list)
    → (class : List ℕ) (place : BeanPlace) → is_gone_chain gone class place ≡ true → has moved class ≡ true
classes-moved gone list names moved of_gone are named class place one =
    ap (λ ns. has ns class) are ∙ named class ∙ ap (list_any (λ g. bytes_eq g.class class)) of_gone ∙ class-of-one gone class place one
