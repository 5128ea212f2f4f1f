-- What each entry keeps holds at each point of a trace.
use Rattle.cdi_legal.proofs.Common.{◌≡◌, ℕ, false, refl, IsFull, InstanceId, Owner, Scene, Moment, put, ask_more, is_create, Entry, Create}
use Rattle.cdi_legal.proofs.Common.{List, [], ◌∷◌, subst, sym, Standing, step, Throughout, after, ◌++◌, append_assoc, arith}
use Rattle.std.proofs.Common.{append-nil}
use Rattle.cdi_legal.proofs.{Along.IsAlong, Along.IsKept, Course.MayBegin, Following.after-append}
use Rattle.cdi_legal.specs.Follows as Follows

-- it holds after each of these entries
abbrev pub HoldsAfterEach : (Standing → Type 0) → Standing → List Entry → Type 0
HoldsAfterEach P s [] = Unit {0}
HoldsAfterEach P s (e ∷ es) = P (step s e) × HoldsAfterEach P (step s e) es

pub each_point : (P : Standing → Type 0) (s : Standing) (trace : List Entry) → P s → HoldsAfterEach P s trace → Throughout P s trace
each_point P s trace holds after [] later is = holds
each_point P s [] holds after (x ∷ earlier) later is = cc
each_point P s (e ∷ trace) holds after (x ∷ earlier) later is =
    subst (λ (y : Entry). P (Follows.after (step s y) earlier)) (head-of e x trace (earlier ++ later) is)
    (each_point P (step s e) trace after.0 after.1 earlier later (rest-of e x trace (earlier ++ later) is))
  where
    head-of : (x y : Entry) (xs ys : List Entry) → x ∷ xs ≡ y ∷ ys → x ≡ y
    head-of x y xs ys h = cc

    rest-of : (x y : Entry) (xs ys : List Entry) → x ∷ xs ≡ y ∷ ys → xs ≡ ys
    rest-of x y xs ys h = cc

-- it held, and holds after each entry that was added
pub record Lasts (P : Standing → Type 0) (old new : Moment) : Type 0 where
  pub pushed : List Entry
  pub trace : new.trace ≡ old.trace ++ pushed
  pub standing : new.standing ≡ after old.standing pushed
  pub points : HoldsAfterEach P old.standing pushed
  pub end : P new.standing

abbrev pub Holds : (Standing → Type 0) → Moment → Moment → Type 0
Holds P old new = P old.standing → Lasts P old new

both : (P : Standing → Type 0) (s : Standing) (xs ys : List Entry) → HoldsAfterEach P s xs → HoldsAfterEach P (after s xs) ys
    → HoldsAfterEach P s (xs ++ ys)
both P s [] ys first second = second
both P s (x ∷ xs) ys first second = (first.0, both P (step s x) xs ys first.1 second)

module _ (P : Standing → Type 0) where
  none : (m : Moment) → Holds P m m
  none m holds = record { pushed = []; trace = sym (append-nil m.trace); standing = refl; points = tt; end = holds }

  pub then : (a b c : Moment) → Holds P a b → Holds P b c → Holds P a c
  then a b c p q holds = grind (arith, a.trace, a.standing, append_assoc, after-append, both)

  one : (e : Entry) (m m' : Moment) → m' ≡ put e m → P (step m.standing e) → Holds P m m'
  one e m m' h next holds = grind arith

  asking : (m m' : Moment) → m' ≡ ask_more m → Holds P m m'
  asking m m' h holds = grind (arith, m.trace, append-nil)

  module _ (calm : (e : Entry) (s : Standing) → is_create e ≡ false → P s → P (step s e)) where
    pub kept_everywhere : IsKept (Holds P)
    kept_everywhere = record {
      none = none;
      then = then;
      entry = λ e m m' other h holds. one e m m' h (calm e m.standing other holds) holds;
    }

    pub everywhere : (s : Scene)
        → ((b : ℕ) (i : InstanceId) (o : Owner) (m : Moment) → MayBegin s b o m → (IsFull m.standing → ⊥) → i.bean ≡ b → P m.standing
        → P (step m.standing (Create i o)))
        → IsAlong s (MayBegin s) (Holds P)
    everywhere s begin = record {
      keeps = kept_everywhere;
      asking = λ m m' few h. asking m m' h;
      may = λ b o m may. may;
      create = λ b i o m m' may room of_bean h holds. one (Create i o) m m' h (begin b i o m may room of_bean holds) holds;
    }
