-- What was made for parameters is there, with its dependent objects.
use Rattle.cdi_legal.proofs.Common.{◌≡◌, ◌<◌, ℕ, None, Some, refl, InstanceId, Scene, Answer, Legal, Node, Moment, suc, ◌+◌, inl, inr, List}
use Rattle.cdi_legal.proofs.Common.{[], ◌∷◌, length, arith, ap, subst, sym, ◌∙◌, Instance, Option, Held, ◌++◌, slice_get, zero, ◌⊎◌}
use Rattle.cdi_legal.proofs.Common.{held_is, slice_get_within, IsDependent}
use Rattle.cdi_legal.proofs.{Growing.legal_grows, Injecting.nat_cases, Injecting.shared-clash}
use Rattle.cdi_legal.proofs.Keeping.{Rises, WasGiven, given-more, owned-param}
use Rattle.cdi_legal.proofs.Settling.{Begins, IsApart, Settled, created_has, has-after, legal_settled}
use Rattle.cdi_legal.specs.Furnished.{IsHeld}
use Rattle.cdi_legal.specs.Legal as nodes

pub kept-in : (h : Held) (x : Option InstanceId) (k : ℕ) (y : Option InstanceId) → slice_get h k ≡ Some y
    → slice_get (h ++ x ∷ []) k ≡ Some y
kept-in [] x k y e = cc
kept-in (z ∷ h) x zero y e = e
kept-in (z ∷ h) x (suc k) y e = kept-in h x k y e

pub last-in : (h : Held) (x : Option InstanceId) → slice_get (h ++ x ∷ []) (length h) ≡ Some x
last-in [] x = refl
last-in (z ∷ h) x = last-in h x

longer : (h : Held) (x : Option InstanceId) → length (h ++ x ∷ []) ≡ length h + 1
longer [] x = refl
longer (z ∷ h) x = omega (arith, longer h x)

-- an instance stands for each parameter up to this one
abbrev pub AreHeld : Scene → List Instance → List ℕ → Held → ℕ → Type 0
AreHeld s live ps h p = (k b : ℕ) → k < p → slice_get ps k ≡ Some b → IsDependent s b → IsHeld s live h k b

-- it stays so along a node
pub held-after : {s : Scene} {k : ℕ} {x : Node} {a : Answer} {m m' : Moment} {h : Held} {p b : ℕ} → Legal s k x m a m' → Begins x m
    → Rises m.standing → IsHeld s m.standing.live h p b → IsHeld s m'.standing.live h p b
held-after {b = b} p begins r one = record {
  number = one.number;
  there = one.there;
  has = has-after (nodes.at b one.number) p begins r one.has;
}

pub supplied_has : {s : Scene} {k p : ℕ} {product : Option InstanceId} {ps : List ℕ} {h held : Held} {m m' : Moment} → IsApart s
    → Legal s k (nodes.supply product ps p h) m (held_is held None) m' → WasGiven product m.standing.given → Settled s m
    → length h ≡ p → AreHeld s m.standing.live ps h p → AreHeld s m'.standing.live ps held (length ps)
supplied_has apart (Legal.no_more_params _ p _ ps _ _ p0) given settled len a =
    λ k b less there own. a k b (omega (arith, p0, slice_get_within ps k b there)) there own
supplied_has {s} apart (Legal.proxy_supplied _ p b _ ps h x _ m _ p0 p1 p2 p3) given settled len a =
    supplied_has apart p3 given settled (omega (arith, longer h None, len))
    (λ k c less there own. by k c less there own (nat_cases k p (omega (arith, less))))
  where
    by : (k c : ℕ) → k < p + 1 → slice_get ps k ≡ Some c → IsDependent s c → (k ≡ p) ⊎ (k < p)
        → IsHeld s m.standing.live (h ++ None ∷ []) k c
    by k c less there own (inl same) =
        let both : Some b ≡ Some c = sym p0 ∙ ap (slice_get ps) (sym same) ∙ there in
        let is : b ≡ c = cc in
        absurd (shared-clash s b x p1 p2 (subst (IsDependent s) (sym is) own))
    by k c less there own (inr low) =
        let one = a k c low there own in
        record { number = one.number; there = kept-in h None k (Some (nodes.at c one.number)) one.there; has = one.has }
supplied_has {s} apart (Legal.dependent_supplied _ p b d product ps h x _ m m₁ _ p0 p1 p2 p3 p4) given settled len a =
    supplied_has apart p4
    (given-more product m.standing.given m₁.standing.given given (legal_grows p3))
    (legal_settled apart p3 (owned-param product p m.standing.given given) settled)
    (omega (arith, longer h (Some (nodes.at b d)), len))
    (λ k c less there own. by k c less there own (nat_cases k p (omega (arith, less))))
  where
    by : (k c : ℕ) → k < p + 1 → slice_get ps k ≡ Some c → IsDependent s c → (k ≡ p) ⊎ (k < p)
        → IsHeld s m₁.standing.live (h ++ Some (nodes.at b d) ∷ []) k c
    by k c less there own (inl same) =
        let both : Some b ≡ Some c = sym p0 ∙ ap (slice_get ps) (sym same) ∙ there in
        let is : b ≡ c = cc in
        let place : length h ≡ k = len ∙ sym same in
        subst (IsHeld s m₁.standing.live (h ++ Some (nodes.at b d) ∷ []) k) is
        (record {
          number = d;
          there = ap (slice_get (h ++ Some (nodes.at b d) ∷ [])) (sym place) ∙ last-in h (Some (nodes.at b d));
          has = created_has apart p3 (owned-param product p m.standing.given given) settled;
        })
    by k c less there own (inr low) =
        let one = a k c low there own in
        record {
          number = one.number;
          there = kept-in h (Some (nodes.at b d)) k (Some (nodes.at c one.number)) one.there;
          has = has-after (nodes.at c one.number) p3 (owned-param product p m.standing.given given) settled.rises one.has;
        }
