-- What each entry and each asking keeps is kept along a legal tree.
use Rattle.cdi_legal.proofs.Common.{◌≡◌, ◌<◌, ℕ, false, None, Some, refl, Outcome, Act, Load, Store, IsFull, Actor, InstanceId, Owner}
use Rattle.cdi_legal.proofs.Common.{Nobody, Seat, Scene, Touches, Ends, End, Answer, Legal, Node, Uses, Use, Runs, Command, Moment, put}
use Rattle.cdi_legal.proofs.Common.{ask_more, is_create, Entry, Create}
use Rattle.cdi_legal.proofs.Course.{ends_course, legal_course, outside-nobody, own_begins, Claims, Closes, IsCourse, IsEnding, MayBegin}
use Rattle.cdi_legal.proofs.Course.{Relations, Writes}
use Rattle.cdi_legal.specs.Ends as ends
use Rattle.cdi_legal.specs.Legal as nodes
use Rattle.cdi_legal.proofs.Course as course

-- the relation holds from a moment to itself, along steps that follow each other, and along an entry that begins no instance
pub record IsKept (R : Moment → Moment → Type 0) : Type 0 where
  pub none : (m : Moment) → R m m
  pub then : (a b c : Moment) → R a b → R b c → R a c
  pub entry : (e : Entry) (m m' : Moment) → is_create e ≡ false → m' ≡ put e m → R m m'

-- what a law asks where an instance of a bean begins for an owner
abbrev pub Asked : Type 1
Asked = ℕ → Owner → Moment → Type 0

abbrev pub Nothing : Asked
Nothing b o m = Unit {0}

-- And along an asking within the budget, and the beginning of an instance within the limit, where what is asked holds. That holds where
-- an instance may begin.
pub record IsAlong (s : Scene) (B : Asked) (R : Moment → Moment → Type 0) : Type 0 where
  pub keeps : IsKept R
  pub asking : (m m' : Moment) → m.asked < 20000 → m' ≡ ask_more m → R m m'
  pub may : (b : ℕ) (o : Owner) (m : Moment) → MayBegin s b o m → B b o m
  pub create : (b : ℕ) (i : InstanceId) (o : Owner) (m m' : Moment) → B b o m → (IsFull m.standing → ⊥) → i.bean ≡ b
      → m' ≡ put (Create i o) m → R m m'

pub touch_along : {R : Moment → Moment → Type 0} → IsKept R → (n : ℕ) (actor : Actor) (x : Act) (m : Moment) (o : Outcome)
    (m' : Moment) → Touches n actor x m o m' → R m m'
touch_along law n actor Load m o m' h = law.entry _ _ _ refl h.1
touch_along law n actor (Store v) m o m' h = law.entry _ _ _ refl h.1
touch_along law n actor other m o m' h = absurd h

-- ---- instances of the scheme

abbrev pub asks_for : Asked → Claims
asks_for B = record { create = B; enter = λ seat. Unit {0}; act = λ seat x. Unit {0} }

abbrev everywhere : (Moment → Moment → Type 0) → Relations
everywhere R = record { over = λ g. R; asks = λ k seat j. R; act = λ k seat x. R; asks_back = λ seat j p. R }

closing_calm : (i : InstanceId) (e : Entry) → Closes i e → is_create e ≡ false
closing_calm i e (course.ready product) = refl
closing_calm i e (course.broken f) = refl

writing_calm : (seat : Seat) (x : Act) (e : Entry) → Writes seat x e → is_create e ≡ false
writing_calm seat x e (course.call site arg) = refl
writing_calm seat x e other = refl

module _ {R : Moment → Moment → Type 0} (law : IsKept R) where
  around : (e e' : Entry) (m m₁ m₂ m' : Moment) → is_create e ≡ false → m₁ ≡ put e m → R m₁ m₂ → is_create e' ≡ false → m' ≡ put e' m₂
      → R m m'
  around e e' m m₁ m₂ m' calm p within calm' q =
      law.then m m₁ m' (law.entry e m m₁ calm p) (law.then m₁ m₂ m' within (law.entry e' m₂ m' calm' q))

  pub ending_kept : (s : Scene) (B : Asked) → IsEnding s (asks_for B) (everywhere R)
  ending_kept s B = record {
    none = λ g m. law.none m;
    then = λ g a b c p q. law.then a b c p q;
    may_enter = λ seat called. tt;
    may_act = λ seat x permits. tt;
    within = λ m m' p. p;
    destroyed = λ i m m₁ m₂ m' p within q. around _ _ m m₁ m₂ m' refl p within refl q;
    entered_back = λ seat arg o m m₁ m₂ m' g p within q. around _ _ m m₁ m₂ m' refl p within refl q;
    ended_back = λ seat j p m. law.none m;
    touched_back = λ seat j p x n r m m₁ m' g few number touches rest.
        law.then m m₁ m' (touch_along law n seat.actor x m r m₁ touches) rest;
    proceeded_back = λ seat j arg o m m₁ m₂ m₃ m' g few p within q rest.
        law.then m m₃ m' (around _ _ m m₁ m₂ m₃ refl p within refl q) rest;
  }

pub course_along : {s : Scene} {B : Asked} {R : Moment → Moment → Type 0} → IsAlong s B R → IsCourse s (asks_for B) (everywhere R)
course_along {s} {B} {R} law = record {
  ends = ending_kept law.keeps s B;
  may_create = law.may;
  ended = λ k m m' p. p;
  skipped = λ k o observer m m' there p. law.keeps.entry _ m m' refl p;
  created = λ k j b o i e m m₁ m₂ m' fewer g room of_bean number p within closes q.
      law.keeps.then m m₁ m' (law.create b i o m m₁ g room of_bean p)
      (law.keeps.then m₁ m₂ m' within (law.keeps.entry e m₂ m' (closing_calm i e closes) q));
  entered = λ k j seat arg o m m₁ m₂ m' fewer g p within q. around law.keeps _ _ m m₁ m₂ m' refl p within refl q;
  unasked = λ k seat j m. law.keeps.none m;
  asked_last = λ k seat j m m' few p. law.asking m m' few p;
  asked = λ k seat j x m m₁ m₂ m' few p j_few within rest.
      law.keeps.then m m₁ m' (law.asking m m₁ few p) (law.keeps.then m₁ m₂ m' within rest);
  touched = λ k seat x n r m m' g number touches. touch_along law.keeps n seat.actor x m r m' touches;
  acted = λ k seat x e o m m₁ m₂ m' g writes p within q.
      around law.keeps e _ m m₁ m₂ m' (writing_calm seat x e writes) p within refl q;
}

led : (R : Moment → Moment → Type 0) (k : ℕ) (x : Node) (m m' : Moment) → course.Leads (everywhere R) k x m m' → R m m'
led R k (nodes.obtain b) m m' p = p
led R k other m m' p = p

end-given : (B : Asked) (e : End) → course.GivenEnd (asks_for B) e
end-given B (ends.destroy i) = tt
end-given B other = tt

end-led : (R : Moment → Moment → Type 0) (e : End) (m m' : Moment) → course.LeadsEnd (everywhere R) e m m' → R m m'
end-led R (ends.destroy i) m m' p = p
end-led R other m m' p = p

pub ends_along : {R : Moment → Moment → Type 0} → IsKept R → {s : Scene} {e : End} {m m' : Moment} → Ends s e m m' → R m m'
ends_along {R} law {s} {e} {m} {m'} p = end-led R e m m' (ends_course (ending_kept law s Nothing) p (end-given Nothing e))

pub legal_along : {s : Scene} {B : Asked} {R : Moment → Moment → Type 0} → IsAlong s B R → {k : ℕ} {x : Node} {a : Answer} {m m' : Moment}
    → Legal s k x m a m' → course.Given (asks_for B) x m → R m m'
legal_along {s} {B} {R} law {k} {x} {a} {m} {m'} p g = led R k x m m' (legal_course (course_along law) p g)

-- where nothing is asked, of any node
pub given_any : (B : Asked) → ((b : ℕ) (o : Owner) (m : Moment) → B b o m) → (x : Node) (m : Moment) → course.Given (asks_for B) x m
given_any B all (nodes.create b o) m = all b o m
given_any B all (nodes.produce i product (Some host)) m = tt
given_any B all (nodes.produce i product None) m = tt
given_any B all other m = tt

-- ---- commands

uses_along : {s : Scene} {B : Asked} {R : Moment → Moment → Type 0} → IsAlong s B R → {i : InstanceId} {u : Use} {m : Moment} {o : Outcome}
    {m' : Moment} → Uses s i u m o m' → R m m'
uses_along law (Uses.looked _ m _) = law.keeps.none m
uses_along law (Uses.called _ _ _ _ _ _ _ p1) = legal_along law p1 tt
uses_along law (Uses.called_product _ _ _ m _ _) = law.keeps.none m

pub runs_along : {s : Scene} {B : Asked} {R : Moment → Moment → Type 0} → IsAlong s B R → {c : Command} {m : Moment} {o : Outcome}
    {m' : Moment} → Runs s c m o m' → R m m'
runs_along law (Runs.refused_shared _ _ _ _ _ _ _ _ p2) = legal_along law p2 tt
runs_along law (Runs.used_shared _ _ _ _ _ m m₁ m' _ _ p2 p3) = law.keeps.then m m₁ m' (legal_along law p2 tt) (uses_along law p3)
runs_along {s} law (Runs.refused_own b x _ _ m _ p0 p1 p2) =
    legal_along law p2 (law.may b Nobody m (own_begins s b x Nobody m p0 p1 outside-nobody))
runs_along {s} law (Runs.used_own b x _ _ _ m m₁ m₂ m' p0 p1 p2 p3 p4) =
    law.keeps.then m m₁ m' (legal_along law p2 (law.may b Nobody m (own_begins s b x Nobody m p0 p1 outside-nobody)))
    (law.keeps.then m₁ m₂ m' (uses_along law p3) (ends_along law.keeps p4))
runs_along law (Runs.fired _ _ _ _ _ p0) = legal_along law p0 tt
