-- When two homes are one, and what is hashed of a home.
use Rattle.std.specs.Prelude.{◌≡◌, ℕ, Bool, true, false, ◌==◌, ◌&&◌, ◌++◌, Decides}
use Rattle.std.specs.Cmp.{IsEquivalence, decided}
use Rattle.std.specs.Hash as fed
use Rattle.std.proofs.Common.{refl, ap, arith}
use Rattle.std.proofs.lemmas.Bool.Decides.{nat_tests}
use Rattle.cdi_contexts.specs.Owned.{same_actor}
use Rattle.cdi_contexts.specs.declared.homes.Home.{Home}
use Rattle.cdi_contexts.specs.declared.homes.Home.TheVariants.{Request, Application, Point}
use Rattle.cdi_contexts.specs.declared.instance.Actor.{Actor}
use Rattle.cdi_contexts.specs.declared.instance.Actor.TheVariants.{Target, Interceptor}

abbrev pub same_home : Home → Home → Bool
same_home (Request a) (Request b) = a == b
same_home (Request a) (Application b) = false
same_home (Request a) (Point n actor p) = false
same_home (Application a) (Request b) = false
same_home (Application a) (Application b) = a == b
same_home (Application a) (Point n actor p) = false
same_home (Point m who q) (Request b) = false
same_home (Point m who q) (Application b) = false
same_home (Point m who q) (Point n actor p) = (m == n) && same_actor who actor && (q == p)

abbrev pub actor_number : Actor → ℕ
actor_number Target = 0
actor_number (Interceptor q) = q

abbrev pub home_input : Home → fed.HashWrites
home_input (Request b) = fed.u32 b
home_input (Application b) = fed.u32 b
home_input (Point n actor p) = fed.u64 n ++ fed.u32 (actor_number actor) ++ fed.u32 p

pub same_number : (a b : ℕ) → Decides (a == b) (a ≡ b)
same_number a b = (λ e. grind (arith, nat_tests, e), λ e. grind (arith, nat_tests, e))

same_actor_decides : (x y : Actor) → Decides (same_actor x y) (x ≡ y)
same_actor_decides Target Target = (λ e. refl, λ e. refl)
same_actor_decides Target (Interceptor q) = (λ e. cc, λ e. cc)
same_actor_decides (Interceptor p) Target = (λ e. cc, λ e. cc)
same_actor_decides (Interceptor p) (Interceptor q) =
    (λ e. ap (λ x. Interceptor x) ((same_number p q).0 e), λ e. (same_number p q).1 (cc))

pub both : (a b : Bool) → a ≡ true → b ≡ true → (a && b) ≡ true
both true b e f = f
both false b e f = e

pub of_both : (a b : Bool) → (a && b) ≡ true → (a ≡ true) × (b ≡ true)
of_both true b e = (refl, e)
of_both false b e = cc

-- two homes are one where they are alike
pub same_home_decides : (g h : Home) → Decides (same_home g h) (g ≡ h)
same_home_decides (Request a) (Request b) = (λ e. ap (λ x. Request x) ((same_number a b).0 e), λ e. (same_number a b).1 (cc))
same_home_decides (Request a) (Application b) = (λ e. cc, λ e. cc)
same_home_decides (Request a) (Point n actor p) = (λ e. cc, λ e. cc)
same_home_decides (Application a) (Request b) = (λ e. cc, λ e. cc)
same_home_decides (Application a) (Application b) = (λ e. ap (λ x. Application x) ((same_number a b).0 e), λ e. (same_number a b).1 (cc))
same_home_decides (Application a) (Point n actor p) = (λ e. cc, λ e. cc)
same_home_decides (Point m who q) (Request b) = (λ e. cc, λ e. cc)
same_home_decides (Point m who q) (Application b) = (λ e. cc, λ e. cc)
same_home_decides (Point m who q) (Point n actor p) = (
  λ e.
      let outer = of_both ((m == n) && same_actor who actor) (q == p) e in
      let inner = of_both (m == n) (same_actor who actor) outer.0 in
      let numbers : m ≡ n = (same_number m n).0 inner.0 in
      let actors : who ≡ actor = (same_actor_decides who actor).0 inner.1 in
      let points : q ≡ p = (same_number q p).0 outer.1 in
      cc,
  λ e.
      both ((m == n) && same_actor who actor) (q == p)
      (both (m == n) (same_actor who actor) ((same_number m n).1 (cc)) ((same_actor_decides who actor).1 (cc)))
      ((same_number q p).1 (cc)),
)

pub same_home_equiv : IsEquivalence same_home
same_home_equiv = decided same_home same_home_decides

pub same_homes_alike : (g h : Home) → same_home g h ≡ true → home_input g ≡ home_input h
same_homes_alike g h same = ap home_input ((same_home_decides g h).0 same)
