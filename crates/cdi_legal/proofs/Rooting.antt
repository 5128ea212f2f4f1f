-- Along what ends, each live instance keeps its home: its context, or the instance that it was made for.
use Rattle.cdi_legal.proofs.Common.{◌≡◌, ◌<◌, ℕ, false, None, Some, refl, Outcome, Act, Load, Store, Actor, InstanceId, Owner, Nobody}
use Rattle.cdi_legal.proofs.Common.{Scene, Touches, Ends, End, Moment, put, is_create, Entry, inl, inr, Bool, true, List, [], ◌∷◌, length}
use Rattle.cdi_legal.proofs.Common.{arith, ap, subst, sym, ◌∙◌, AllByRecursion, Scope, is_of, Standing, Target, Interceptor, Instance}
use Rattle.cdi_legal.proofs.Common.{Point, applied, effect, step, Effect, Option, Held, context, ◌==◌, map, slice_get, is_part_of, without}
use Rattle.cdi_legal.proofs.Common.{keep, finish, IsStill, is_beginning, ◌⊎◌, IsSome, numbered, destroy, dependents, held, IsHome}
use Rattle.cdi_legal.proofs.Common.{slice_get_within, find, option_map, all-weaker}
use Rattle.std.proofs.{Common.cond, Common.reverse, lemmas.List.reverse-append, lemmas.List.Folds.find-append}
use Rattle.std.specs.Option.{option_or}
use Rattle.base_lists.proofs.Each.{all-each}
use Rattle.cdi_contexts.specs.Standing.{last_where}
use Rattle.cdi_legal.proofs.Keeping.{Test, all-without, still-finish, still-keep, still-without}
use Rattle.cdi_legal.proofs.Furnishing.{all-both, all-step, ends-all, found-such, none-left}
use Rattle.cdi_legal.proofs.Injecting.{nat_cases}
use Rattle.cdi_legal.specs.Moment as effects

-- ---- homes

-- which instances need no home, by their number and their owner
abbrev pub Free : Type 1
Free = ℕ → Owner → Type 0

-- each of the others has one
abbrev pub AreHome : Free → List Instance → Type 0
AreHome L live = AllByRecursion (λ z. IsHome live z.owner ⊎ L z.id.number z.owner) live

-- what is live stays so
abbrev pub Stay : List Instance → List Instance → Type 0
Stay live after = (n : ℕ) → IsSome (numbered live n) → IsSome (numbered after n)

abbrev pub of_number : ℕ → Test
of_number n = λ id o. id.number == n

pub some-of : {X : Type 0} (o : Option X) → IsSome o → (x : X) × (o ≡ Some x)
some-of (Some x) h = (x, refl)
some-of None h = cc

pub is-some : {X : Type 0} (o : Option X) (x : X) → o ≡ Some x → IsSome o
is-some (Some y) x e = refl
is-some None x e = cc

-- it is so where each instance that is found is still found
pub stay-still : (live after : List Instance)
    → ((n : ℕ) (i : Instance) → numbered live n ≡ Some i → IsStill i (numbered after n)) → Stay live after
stay-still live after still n h =
    let one = some-of (numbered live n) h in
    let s = still n one.0 one.1 in
    is-some (numbered after n) s.same s.there

pub home-stay : (live after : List Instance) (o : Owner) → Stay live after → IsHome live o → IsHome after o
home-stay live after (Point n actor p) stay h = stay n h
home-stay live after Nobody stay h = absurd h
home-stay live after other stay h = tt

-- ---- which need none

-- one more, by its number
abbrev pub Also : Free → ℕ → Free
Also L k n o = L n o ⊎ (n ≡ k)

-- and what was made for it
abbrev pub AlsoParts : Free → ℕ → Free
AlsoParts L k n o = L n o ⊎ (is_part_of k o ≡ true)

pub wider : (L M : Free) (live : List Instance) → ((n : ℕ) (o : Owner) → L n o → M n o) → AreHome L live → AreHome M live
wider L M live more a = grind (arith, all-weaker)

-- where none of the further ones is live, those that were needed none before are all
pub narrower : (L M : Free) (live : List Instance) → AllByRecursion (λ z. M z.id.number z.owner → ⊥) live
    → AreHome (λ n o. L n o ⊎ M n o) live → AreHome L live
narrower L M live none a = grind (arith, all-weaker, all-both)

-- ---- entries

-- the effect begins no instance and takes none away
abbrev IsCalmEffect : Effect → Type 0
IsCalmEffect (effects.begins id owner) = ⊥
IsCalmEffect (effects.ends number) = ⊥
IsCalmEffect other = Unit {0}

abbrev pub IsCalm : Entry → Type 0
IsCalm e = IsCalmEffect (effect e)

calm-after : (x : Effect) → IsCalmEffect x → is_beginning x ≡ false
calm-after (effects.begins id owner) p = absurd p
calm-after (effects.ends number) p = absurd p
calm-after other p = refl

pub calm-begins : (e : Entry) → IsCalm e → is_create e ≡ false
calm-begins e p = calm-after (effect e) p

stay-after : (x : Effect) (s : Standing) → IsCalmEffect x → Stay s.live (applied s x).live
stay-after (effects.begins id owner) s p = absurd p
stay-after (effects.readies number product) s p =
    stay-still s.live (map (finish number product) s.live) (λ n i h. still-finish (of_number n) number product s.live i h)
stay-after (effects.ends number) s p = absurd p
stay-after (effects.stores number Target value) s p =
    stay-still s.live (map (keep number value) s.live) (λ n i h. still-keep (of_number n) number value s.live i h)
stay-after (effects.stores number (Interceptor q) value) s p = λ n h. h
stay-after effects.none s p = λ n h. h

stay-step : (e : Entry) (s : Standing) → IsCalm e → Stay s.live (step s e).live
stay-step e s p = stay-after (effect e) s p

home-step : (L : Free) (e : Entry) (s : Standing) → IsCalm e → AreHome L s.live → AreHome L (step s e).live
home-step L e s p a =
    let after = (step s e).live in
    all-step (λ id o. IsHome after o ⊎ L id.number o) e s (calm-begins e p)
    (all-weaker (λ z. IsHome s.live z.owner ⊎ L z.id.number z.owner) (λ z. IsHome after z.owner ⊎ L z.id.number z.owner) s.live
    (λ z h. elim h [ inl home ↦ inl (home-stay s.live after z.owner (stay-step e s p) home) | inr free ↦ inr free ]) a)

pub home-entry : (L : Free) (e : Entry) (m m' : Moment) → m' ≡ put e m → IsCalm e → AreHome L m.standing.live
    → AreHome L m'.standing.live
home-entry L e m m' h p a = subst (λ (x : Moment). AreHome L x.standing.live) (sym h) (home-step L e m.standing p a)

pub home-touch : (L : Free) (n : ℕ) (actor : Actor) (x : Act) (m : Moment) (o : Outcome) (m' : Moment)
    → Touches n actor x m o m' → AreHome L m.standing.live → AreHome L m'.standing.live
home-touch L n actor Load m o m' h a = home-entry L _ m m' h.1 tt a
home-touch L n actor (Store v) m o m' h a = home-entry L _ m m' h.1 tt a
home-touch L n actor other m o m' h a = absurd h

-- ---- an instance goes

-- none of these was made for instance k
abbrev pub NoParts : ℕ → List Instance → Type 0
NoParts k live = AllByRecursion (λ z. is_part_of k z.owner ≡ false) live

-- none of them has number k
abbrev pub NoNumber : ℕ → List Instance → Type 0
NoNumber k live = AllByRecursion (λ z. z.id.number ≡ k → ⊥) live

stay-without : (k n : ℕ) (live : List Instance) → (n ≡ k → ⊥) → IsSome (numbered live n) → IsSome (numbered (without k live) n)
stay-without k n live other h =
    let one = some-of (numbered live n) h in
    let found = found-such (λ z. Unit {0}) (of_number n) live one.0 (all-each (λ z. Unit {0}) (λ z. tt) live) one.1 in
    let is : one.0.id.number ≡ n = grind (arith, found.1) in
    let s = still-without (of_number n) k live one.0 (λ e. other (sym is ∙ e)) one.1 in
    is-some (numbered (without k live) n) s.same s.there

home-without : (k : ℕ) (live : List Instance) (o : Owner) → is_part_of k o ≡ false → IsHome live o → IsHome (without k live) o
home-without k live (Point n actor p) e h =
    stay-without k n live (λ same. let clash : (n == k) ≡ true = grind arith in let no : true ≡ false = sym clash ∙ e in cc) h
home-without k live Nobody e h = absurd h
home-without k live other e h = tt

-- what was made for it needs no home any more
pub home-lost : (L : Free) (k : ℕ) (live : List Instance) → AreHome L live → AreHome (AlsoParts L k) (without k live)
home-lost L k live a = grind (arith, all-without, all-weaker, home-without)

pub no-parts : (k : ℕ) (live : List Instance) → NoParts k live → AllByRecursion (λ z. is_part_of k z.owner ≡ true → ⊥) live
no-parts k live a = grind (arith, all-weaker)

-- where nothing was made for it, all others keep theirs
home-gone : (L : Free) (k : ℕ) (live : List Instance) → NoParts k live → AreHome L live → AreHome L (without k live)
home-gone L k live none a =
    narrower L (λ n o. is_part_of k o ≡ true) (without k live)
    (no-parts k (without k live) (all-without (λ z. is_part_of k z.owner ≡ false) k live none)) (home-lost L k live a)

-- ---- what is not found

none-last : (f : Owner → Bool) (live : List Instance) → last_where f live ≡ None → AllByRecursion (λ z. f z.owner ≡ false) live
none-last f [] e = tt
none-last f (x ∷ xs) e =
    let p : Instance → Bool = λ i. f i.owner in
    let end : find p (reverse (x ∷ xs)) ≡ option_or (find p (reverse xs)) (cond (f x.owner) (Some x) None) =
    ap (find p) (reverse-append (x ∷ []) xs) ∙ find-append p (reverse xs) (x ∷ []) in
    by (find (λ i. f i.owner) (reverse xs)) (f x.owner) refl refl (none-last f xs) (sym (ap (option_map (λ i. i.id)) end) ∙ e)
  where
    by : (o : Option Instance) (b : Bool) → find (λ i. f i.owner) (reverse xs) ≡ o → f x.owner ≡ b
        → (last_where f xs ≡ None → AllByRecursion (λ z. f z.owner ≡ false) xs)
        → option_map (λ i. i.id) (option_or o (cond b (Some x) None)) ≡ None → AllByRecursion (λ z. f z.owner ≡ false) (x ∷ xs)
    by (Some y) b there is rest h = cc
    by None true there is rest h = cc
    by None false there is rest h = (is, rest (ap (option_map (λ i. i.id)) there))

-- ---- ends

-- nothing is left that was made for its points
pub dependents-gone : {s : Scene} {n : ℕ} {m m' : Moment} → Ends s (dependents n) m m' → NoParts n m'.standing.live
dependents-gone (Ends.no_dependent n m p0) = none-last (is_part_of n) m.standing.live p0
dependents-gone (Ends.youngest _ _ _ _ _ _ _ p2) = dependents-gone p2

-- nothing is left in the context
pub context-gone : {s : Scene} {scope : Scope} {m m' : Moment} → Ends s (context scope) m m'
    → AllByRecursion (λ z. is_of scope z.owner ≡ false) m'.standing.live
context-gone (Ends.context_empty scope m p0) = none-last (is_of scope) m.standing.live p0
context-gone (Ends.context_left _ _ _ _ _ _ _ p2) = context-gone p2

-- the instance is not live
pub destroy-gone : {s : Scene} {i : InstanceId} {m m' : Moment} → Ends s (destroy i) m m' → NoNumber i.number m'.standing.live
destroy-gone (Ends.destroyed i m m₁ m₂ m₃ m' p0 p1 p2 p3) =
    subst (λ (x : Moment). NoNumber i.number x.standing.live) (sym p3) (none-left i.number m₃.standing.live)

-- what ends leaves the others their homes
pub ends-home : (L : Free) {s : Scene} {e : End} {m m' : Moment} → Ends s e m m' → AreHome L m.standing.live
    → AreHome L m'.standing.live
ends-home L (Ends.destroyed i m m₁ m₂ m₃ m' p0 p1 p2 p3) a =
    subst (λ (x : Moment). AreHome L x.standing.live) (sym p3)
    (home-gone L i.number m₃.standing.live (dependents-gone p2) (ends-home L p2 (ends-home L p1 (home-entry L _ m m₁ p0 tt a))))
ends-home L (Ends.no_dependent _ m _) a = a
ends-home L (Ends.youngest _ _ _ _ _ _ p1 p2) a = ends-home L p2 (ends-home L p1 a)
ends-home L (Ends.none_held _ m) a = a
ends-home L (Ends.proxy_held _ _ _ _ _ _ _ p2) a = ends-home L p2 a
ends-home L (Ends.instance_held _ _ _ _ _ _ _ _ _ p2 p3) a = ends-home L p3 (ends-home L p2 a)
ends-home L (Ends.context_empty _ m _) a = a
ends-home L (Ends.context_left _ _ _ _ _ _ p1 p2) a = ends-home L p2 (ends-home L p1 a)
ends-home L (Ends.called_back _ _ _ _ _ _ p1) a = ends-home L p1 a
ends-home L (Ends.undisposed _ _ m _ _) a = a
ends-home L (Ends.disposed _ _ _ _ _ _ _ _ p2) a = ends-home L p2 a
ends-home L (Ends.no_bean _ m _ _) a = a
ends-home L (Ends.linked_back _ _ _ _ _ _ _ _ _ _ p2) a = ends-home L p2 a
ends-home L (Ends.bare_back _ _ _ _ m _ _ _) a = a
ends-home L (Ends.targeted_back _ _ _ _ _ _ _ _ _ _ _ p3) a = ends-home L p3 a
ends-home L (Ends.framed_back _ _ _ _ m m₁ m₂ m' p0 p1 p2) a =
    home-entry L _ m₂ m' p2 tt (ends-home L p1 (home-entry L _ m m₁ p0 tt a))
ends-home L (Ends.ended_back _ _ _ _ _ _ m _ _) a = a
ends-home L (Ends.stopped_back _ _ _ _ m _ _) a = a
ends-home L (Ends.proceeded_twice _ _ _ _ m _) a = a
ends-home L (Ends.touched_back seat _ _ n _ act r _ m m₁ m' _ _ _ p3 p4) a =
    ends-home L p4 (home-touch L n seat.actor act m r m₁ p3 a)
ends-home L (Ends.proceeded_back _ _ _ _ _ _ _ m m₁ m₂ m₃ m' _ _ _ _ p4 p5 p6 p7) a =
    ends-home L p7 (home-entry L _ m₂ m₃ p6 tt (ends-home L p5 (home-entry L _ m m₁ p4 tt a)))

-- ---- what is destroyed where it was made

pub destroyed-home : (L : Free) {s : Scene} {i : InstanceId} {m m' : Moment} → Ends s (destroy i) m m'
    → AreHome (Also L i.number) m.standing.live → AreHome L m'.standing.live
destroyed-home L {i = i} {m' = m'} p a =
    narrower L (λ n o. n ≡ i.number) m'.standing.live (destroy-gone p) (ends-home (Also L i.number) p a)

-- it is the number of one that is held
pub record IsIn (h : Held) (n : ℕ) : Type 0 where
  pub place : ℕ
  pub id : InstanceId
  pub there : slice_get h place ≡ Some (Some id)
  pub is : n ≡ id.number

-- none of these so many is live
abbrev NoneOf : Held → ℕ → InstanceId → Owner → Type 0
NoneOf h k d o = (j : ℕ) (i : InstanceId) → j < k → slice_get h j ≡ Some (Some i) → d.number ≡ i.number → ⊥

held-gone : {s : Scene} {h : Held} {k : ℕ} {m m' : Moment} → Ends s (held h k) m m'
    → AllByRecursion (λ z. NoneOf h k z.id z.owner) m'.standing.live
held-gone (Ends.none_held h m) =
    all-each (λ z. NoneOf h 0 z.id z.owner) (λ z j i less there same. absurd (omega (arith, less))) m.standing.live
held-gone (Ends.proxy_held h j k m m' p0 p1 p2) =
    all-weaker (λ z. NoneOf h j z.id z.owner) (λ z. NoneOf h k z.id z.owner) m'.standing.live
    (λ z none l i less there same. elim (nat_cases l j (omega (arith, less, p0))) [
      | inl last ↦ (let both : Some (Some i) ≡ Some None = sym there ∙ ap (slice_get h) last ∙ p1 in cc)
      | inr low ↦ none l i low there same
    ])
    (held-gone p2)
held-gone (Ends.instance_held h j k i m m₁ m' p0 p1 p2 p3) =
    all-weaker (λ z. NoneOf h j z.id z.owner × (z.id.number ≡ i.number → ⊥)) (λ z. NoneOf h k z.id z.owner) m'.standing.live
    (λ z none l d less there same. elim (nat_cases l j (omega (arith, less, p0))) [
      | inl last ↦ (let both : Some (Some d) ≡ Some (Some i) = sym there ∙ ap (slice_get h) last ∙ p1 in
          let is : d ≡ i = cc in
          none.1 (same ∙ ap (λ (x : InstanceId). x.number) is))
      | inr low ↦ none.0 l d low there same
    ])
    (all-both (λ z. NoneOf h j z.id z.owner) (λ z. z.id.number ≡ i.number → ⊥) m'.standing.live (held-gone p3)
    (ends-all (λ id o. id.number ≡ i.number → ⊥) p3 (destroy-gone p2)))

-- so nothing is left of what was held
pub held-home : (L : Free) {s : Scene} {h : Held} {m m' : Moment} → Ends s (held h (length h)) m m'
    → AreHome (λ n o. L n o ⊎ IsIn h n) m.standing.live → AreHome L m'.standing.live
held-home L {h = h} {m' = m'} p a =
    narrower L (λ n o. IsIn h n) m'.standing.live
    (all-weaker (λ z. NoneOf h (length h) z.id z.owner) (λ z. IsIn h z.id.number → ⊥) m'.standing.live
    (λ z none one. none one.place one.id (slice_get_within h one.place (Some one.id) one.there) one.there one.is) (held-gone p))
    (ends-home (λ n o. L n o ⊎ IsIn h n) p a)
