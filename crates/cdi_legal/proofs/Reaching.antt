-- What a call site names is there: whoever runs has the dependent object that it leads to.
use Rattle.cdi_legal.proofs.Common.{◌≡◌, ℕ, None, Some, Seat, Scene, Legal, Moment, true, List, ap, subst, sym, ◌∙◌, Instance, Held}
use Rattle.cdi_legal.proofs.Common.{IsFurnished, made_for, HasDependents, made_is, IsDependent, option_map}
use Rattle.cdi_scene.specs.{Sound.IsNamed, declared.scene.CallSite.CallSite, declared.scene.Via.Via}
use Rattle.cdi_scene.specs.declared.scene.Via.TheVariants.{Own, Param}
use Rattle.cdi_legal.proofs.Furnishing.{at as at_point, found-such}
use Rattle.cdi_legal.proofs.Settling.{IsApart, Settled, obtained_has}
use Rattle.cdi_legal.specs.{Legal.at, Legal.dependent_of, Legal.number_of, Legal.reach, Furnished.IsServed}
use Rattle.cdi_legal.specs.declared.entry.Made.TheVariants.{Instance as Obtained}

-- the instance is there, and has its own dependent objects
pub record IsReached (s : Scene) (live : List Instance) (seat : Seat) (h : Held) (via : Via) (b : ℕ) : Type 0 where
  pub number : ℕ
  pub reached : dependent_of live seat h via ≡ Some number
  pub has : HasDependents s live (at b number)

pub reaches : (s : Scene) (live : List Instance) (seat : Seat) (h : Held) (via : Via) (b : ℕ) → IsFurnished s live
    → IsServed s live seat h → IsNamed s seat via b → IsDependent s b → IsReached s live seat h via b
reaches s live seat h (Own p) b furnished served named own =
    let m = served.own named.number named.seated named.managed named.place _ named.there named.injected own in
    let had = found-such (λ z. z.is_ready ≡ true → HasDependents s live z.id) (at_point named.number seat.actor p)
    live m.made furnished
    m.there in
    record {
      number = m.made.id.number;
      reached = ap (λ o. elim o [
        | Some n ↦ option_map (λ i. i.id.number) (made_for live n seat.actor p)
        | None ↦ None
      ]) named.seated
          ∙ ap (option_map (λ i. i.id.number)) m.there;
      has = subst (λ (c : ℕ). HasDependents s live (at c m.made.id.number)) m.bean (had.0 m.ready);
    }
reaches s live seat h (Param p) b furnished served named own =
    let one = served.params p b named own in
    record {
      number = one.number;
      reached = ap (λ o. elim o [ Some made ↦ number_of made | None ↦ None ]) one.there;
      has = one.has;
    }

-- what a call site has reached has its own dependent objects
pub reached_has : {s : Scene} {k n : ℕ} {seat : Seat} {h : Held} {c : CallSite} {m m' : Moment} → IsApart s
    → Legal s k (reach seat h c) m (made_is (Obtained n)) m' → Settled s m → IsServed s m.standing.live seat h
    → IsNamed s seat c.via c.bean → HasDependents s m'.standing.live (at c.bean n)
reached_has apart (Legal.reached_shared _ _ _ _ _ _ _ _ _ _ p2) settled served named = obtained_has apart p2 settled
reached_has {s} apart (Legal.reached_own _ seat h c x n m p0 p1 p2) settled served named =
    let own : IsDependent s c.bean = record { bean = x; there = p0; scoped = p1 } in
    let r = reaches s m.standing.live seat h c.via c.bean settled.furnished served named own in
    let both : Some r.number ≡ Some n = sym r.reached ∙ p2 in
    let same : r.number ≡ n = cc in
    subst (λ (d : ℕ). HasDependents s m.standing.live (at c.bean d)) same r.has
