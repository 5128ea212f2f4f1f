-- Along a legal tree each live instance has a home: its context, or the instance that it was made for.
use Rattle.cdi_legal.proofs.Common.{all-weaker, ◌≡◌, ◌<◌, ℕ, false, None, Some, refl, Outcome, Act, Actor, InstanceId, Owner, Nobody, Scene}
use Rattle.cdi_legal.proofs.Common.{Touches, Ends, End, Answer, Legal, Node, Uses, Use, Runs, Command, Moment, put, ask_more, Entry, ◌+◌}
use Rattle.cdi_legal.proofs.Common.{◌≤◌, inl, inr, true, List, [], ◌∷◌, length, arith, ap, subst, sym, ◌∙◌, AllByRecursion, Scope}
use Rattle.cdi_legal.proofs.Common.{context_of, is_of, Standing, Instance, Point, is_normal, beginning, Option, Failure, bean_at, Bean}
use Rattle.cdi_legal.proofs.Common.{Held, for_param, Refused, IsRising, LegalRun, LegalRequestEnd, LegalEnd, create, ◌++◌, ◌==◌, slice_get}
use Rattle.cdi_legal.proofs.Common.{is_part_of, IsOwnerOf, ◌⊎◌, IsSome, numbered, IsRising-more, destroy, dependents, held, made_is}
use Rattle.cdi_legal.proofs.Common.{held_is, IsHome}
use Rattle.cdi_model.specs.declared.decl.Scope.TheVariants as scopes
use Rattle.cdi_legal.proofs.{Along.touch_along, Growing.legal_grows, Supplying.kept-in, Supplying.last-in}
use Rattle.cdi_legal.proofs.Keeping.{Rises, all-more, begun, given-more, legal_older, older, owned-context, owned-param, still-more}
use Rattle.cdi_legal.proofs.Furnishing.{all-above, all-given, ends-all, ends-rise, found-such, none-left, rises-kept}
use Rattle.cdi_legal.proofs.Settling.{Begins, owns, same-given, new_one}
use Rattle.cdi_legal.proofs.Rooting.{AreHome, Also, AlsoParts, Free, IsCalm, IsIn, NoNumber, Stay, calm-begins, context-gone}
use Rattle.cdi_legal.proofs.Rooting.{dependents-gone, destroyed-home, ends-home, held-home, home-entry, home-lost, home-stay, home-touch}
use Rattle.cdi_legal.proofs.Rooting.{narrower, no-parts, of_number, some-of, stay-still, wider}
use Rattle.cdi_legal.specs.declared.entry.Made.TheVariants.{Instance as Obtained}
use Rattle.cdi_legal.specs.{Laws.BothEndsLeaveNothing, Laws.CommandsKeepRooted, Rooted.IsRooted}
use Rattle.cdi_legal.specs.Legal as nodes
use Rattle.cdi_legal.specs.declared.entry.Entry.TheVariants as entries

-- numbers rise, and each live instance has a home but these
pub record Rests (L : Free) (m : Moment) : Type 0 where
  pub rises : Rises m.standing
  pub home : AreHome L m.standing.live

abbrev Path : Free → Moment → Moment → Type 0
Path L m m' = Rests L m → Rests L m'

-- ---- steps

entry : (L : Free) (e : Entry) (m m' : Moment) → m' ≡ put e m → IsCalm e → Path L m m'
entry L e m m' is p h = record {
  rises = rises-kept.entry e m m' (calm-begins e p) is h.rises;
  home = home-entry L e m m' is p h.home;
}

asking : (L : Free) (m m' : Moment) → m' ≡ ask_more m → Path L m m'
asking L m m' is h = subst (Rests L) (sym is) (record { rises = h.rises; home = h.home })

touch : (L : Free) (n : ℕ) (actor : Actor) (x : Act) (m : Moment) (o : Outcome) (m' : Moment) → Touches n actor x m o m' → Path L m m'
touch L n actor x m o m' t h = grind (arith, h.rises, h.home, touch_along, rises-kept, home-touch)

ends : (L : Free) {s : Scene} {e : End} {m m' : Moment} → Ends s e m m' → Path L m m'
ends L p h = record { rises = ends-rise p h.rises; home = ends-home L p h.home }

-- what is live stays so
stays-after : {s : Scene} {k : ℕ} {x : Node} {a : Answer} {m m' : Moment} → Legal s k x m a m' → Begins x m → Rises m.standing
    → Stay m.standing.live m'.standing.live
stays-after {s} {k} {x} {a} {m} {m'} p b r =
    let step = legal_older (older m.standing.given) p (owns (older m.standing.given) x m (λ o id l w. tt) b) (same-given m) r in
    stay-still m.standing.live m'.standing.live
    (λ n i e. step.keeps (of_number n) i
    (found-such (λ z. z.id.number ≤ m.standing.given) (of_number n) m.standing.live i
    (all-given 0 m.standing.given m.standing.live r) e).0 e)

-- ---- a new instance

some-more : (n : ℕ) (live : List Instance) (x : Instance) → x.id.number ≡ n → IsSome (numbered (live ++ x ∷ []) n)
some-more n [] x e = let is : (x.id.number == n) ≡ true = grind arith in rw is refl
some-more n (y ∷ ys) x e = grind (arith, some-more n ys x e, y.id.number)

begun-lives : (i : InstanceId) (o : Owner) (m m' : Moment) → i.number ≡ m.standing.given + 1 → m' ≡ put (entries.Create i o) m
    → IsSome (numbered m'.standing.live i.number)
begun-lives i o m m' e is = grind (arith, i.number, m.standing.live, some-more)

-- it has a home, or needs none
begin : (L : Free) (i : InstanceId) (o : Owner) (m m' : Moment) → i.number ≡ m.standing.given + 1 → m' ≡ put (entries.Create i o) m
    → IsOwnerOf (m.standing.given + 1) o → IsHome m.standing.live o ⊎ L i.number o → Path L m m'
begin L i o m m' e is owned home h = subst (Rests L) (sym is) (record {
  rises = IsRising-more m.standing.given m.standing.live (new_one i o m) h.rises refl owned;
  home = all-more (λ z. IsHome after z.owner ⊎ L z.id.number z.owner) m.standing.live (new_one i o m)
      (all-weaker (λ z. IsHome m.standing.live z.owner ⊎ L z.id.number z.owner) (λ z. IsHome after z.owner ⊎ L z.id.number z.owner)
      m.standing.live (λ z home. moved z.id.number z.owner home) h.home)
      (subst (λ n. IsHome after o ⊎ L n o) e (moved i.number o home));
})
  where
    after : List Instance
    after = m.standing.live ++ new_one i o m ∷ []

    stay : Stay m.standing.live after
    stay = stay-still m.standing.live after (λ n d f. still-more (of_number n) m.standing.live (new_one i o m) d f)

    moved : (n : ℕ) (x : Owner) → IsHome m.standing.live x ⊎ L n x → IsHome after x ⊎ L n x
    moved n x (inl there) = inl (home-stay m.standing.live after x stay there)
    moved n x (inr free) = inr free

-- where its creation fails nothing is left of it
broke : (L : Free) {s : Scene} {m m₁ m' : Moment} (i : InstanceId) (f : Failure) → m₁ ≡ put (entries.Broken i f) m
    → Ends s (dependents i.number) m₁ m' → Rests (Also L i.number) m → Rests L m'
broke L {s} {m} {m₁} {m'} i f is p h =
    let M : Free = AlsoParts (Also L i.number) i.number in
    let home₁ : AreHome M m₁.standing.live =
    subst (λ (y : Moment). AreHome M y.standing.live) (sym is) (home-lost (Also L i.number) i.number m.standing.live h.home) in
    let none₁ : NoNumber i.number m₁.standing.live =
    subst (λ (y : Moment). NoNumber i.number y.standing.live) (sym is) (none-left i.number m.standing.live) in
    let without_parts : AreHome (Also L i.number) m'.standing.live =
    narrower (Also L i.number) (λ n o. is_part_of i.number o ≡ true) m'.standing.live
    (no-parts i.number m'.standing.live (dependents-gone p)) (ends-home M p home₁) in
    record {
      rises = ends-rise p (rises-kept.entry (entries.Broken i f) m m₁ refl is h.rises);
      home = narrower L (λ n o. n ≡ i.number) m'.standing.live (ends-all (λ id o. id.number ≡ i.number → ⊥) p none₁) without_parts;
    }

-- further ones need no home
also : (L M : Free) (m : Moment) → Rests L m → Rests (λ n o. L n o ⊎ M n o) m
also L M m h = record { rises = h.rises; home = wider L (λ n o. L n o ⊎ M n o) m.standing.live (λ n o free. inl free) h.home }

-- nor does one of this number
also-one : (L : Free) (n : ℕ) (m : Moment) → Rests L m → Rests (Also L n) m
also-one L n m h = also L (λ k o. k ≡ n) m h

destroyed : (L : Free) {s : Scene} {i : InstanceId} {m m' : Moment} → Ends s (destroy i) m m' → Rests (Also L i.number) m → Rests L m'
destroyed L p h = record { rises = ends-rise p h.rises; home = destroyed-home L p h.home }

-- ---- what was made for parameters

-- those that are held need no home either
abbrev AlsoHeld : Free → Held → Free
AlsoHeld L h n o = L n o ⊎ IsIn h n

also-held : (L : Free) (h : Held) (m : Moment) → Rests L m → Rests (AlsoHeld L h) m
also-held L h m a = also L (λ n o. IsIn h n) m a

held-destroyed : (L : Free) {s : Scene} {h : Held} {m m' : Moment} → Ends s (held h (length h)) m m' → Rests (AlsoHeld L h) m
    → Rests L m'
held-destroyed L p a = record { rises = ends-rise p a.rises; home = held-home L p a.home }

-- what is held goes on to be held
record GoesOn (h : Held) (a : Answer) : Type 0 where
  pub all : Held
  pub failure : Option Failure
  pub is : a ≡ held_is all failure
  pub keeps : (j : ℕ) (y : Option InstanceId) → slice_get h j ≡ Some y → slice_get all j ≡ Some y

goes-on : {s : Scene} {k p : ℕ} {product : Option InstanceId} {ps : List ℕ} {h : Held} {a : Answer} {m m' : Moment}
    → Legal s k (nodes.supply product ps p h) m a m' → GoesOn h a
goes-on (Legal.no_more_params _ _ _ _ h _ _) = record { all = h; failure = None; is = refl; keeps = λ j y e. e }
goes-on (Legal.proxy_supplied _ _ _ _ _ h _ _ _ _ _ _ _ p3) =
    let g = goes-on p3 in
    record { all = g.all; failure = g.failure; is = g.is; keeps = λ j y e. g.keeps j y (kept-in h None j y e) }
goes-on (Legal.dependent_supplied _ _ b d _ _ h _ _ _ _ _ _ _ _ p3 p4) =
    let g = goes-on p4 in
    record { all = g.all; failure = g.failure; is = g.is; keeps = λ j y e. g.keeps j y (kept-in h (Some (nodes.at b d)) j y e) }
goes-on (Legal.supply_failed _ _ _ _ _ h _ f _ _ _ _ _ _) = record { all = h; failure = Some f; is = refl; keeps = λ j y e. e }

-- the product is live; where there is none, what will be held needs no home
abbrev Feeds : Free → Option InstanceId → Answer → List Instance → Type 0
Feeds L (Some i) a live = IsSome (numbered live i.number)
Feeds L None a live = (h : Held) (f : Option Failure) (j : ℕ) (i : InstanceId) → a ≡ held_is h f → slice_get h j ≡ Some (Some i)
    → L i.number Nobody

feeds-on : (L : Free) (product : Option InstanceId) (a : Answer) (live after : List Instance) → Stay live after
    → Feeds L product a live → Feeds L product a after
feeds-on L (Some i) a live after stay f = stay i.number f
feeds-on L None a live after stay f = f

-- the owner is a home, or the instance needs none
abbrev Houses : Free → Owner → Answer → List Instance → Type 0
Houses L o a live = (n : ℕ) → a ≡ made_is (Obtained n) → IsHome live o ⊎ L n o

-- one that is refused needs none
refused : (L : Free) (o : Owner) (f : Failure) (live : List Instance) → Houses L o (made_is (Refused f)) live
refused L o f live n e = cc

houses-param : (L : Free) (b d : ℕ) (h : Held) {a : Answer} (product : Option InstanceId) (p : ℕ) (live : List Instance)
    → GoesOn (h ++ Some (nodes.at b d) ∷ []) a → Feeds L product a live → Houses L (for_param product p) (made_is (Obtained d)) live
houses-param L b d h (Some i) p live g f = λ n e. inl f
houses-param L b d h None p live g f = λ n e.
    let same : d ≡ n = cc in
    inr (subst (λ x. L x Nobody) same
    (f g.all g.failure (length h) (nodes.at b d) g.is (g.keeps (length h) (Some (nodes.at b d)) (last-in h (Some (nodes.at b d))))))

-- one that belongs to nobody is destroyed where it was made
own : (L : Free) (n : ℕ) (live : List Instance) → Houses (Also L n) Nobody (made_is (Obtained n)) live
own L n live k e = let same : k ≡ n = cc in inr (inr same)

held-free : (L : Free) (h : Held) (f : Option Failure) (g : Held) (x : Option Failure) (j : ℕ) (i : InstanceId)
    → held_is h f ≡ held_is g x → slice_get g j ≡ Some (Some i) → AlsoHeld L h i.number Nobody
held-free L h f g x j i e there = grind arith

-- ---- nodes

-- the bean's instances are shared
abbrev IsShared : Scene → ℕ → Type 0
IsShared s b = (x : Bean) → bean_at s b ≡ Some x → is_normal x.scope ≡ true

shared : (s : Scene) (b : ℕ) (d : Bean) → bean_at s b ≡ Some d → is_normal d.scope ≡ true → IsShared s b
shared s b d there normal x here = grind arith

home-context : (live : List Instance) (scope : Scope) → is_normal scope ≡ true → IsHome live (context_of scope)
home-context live scopes.Dependent e = cc
home-context live other e = tt

-- what is asked where the node creates instances: their owners are homes, or they need none
abbrev Needs : Scene → Free → Node → Answer → Moment → Type 0
Needs s L (nodes.obtain b) a m = IsShared s b
Needs s L (create b o) a m = Houses L o a m.standing.live
Needs s L (nodes.setup i) a m = IsSome (numbered m.standing.live i.number)
Needs s L (nodes.inject i ps p) a m = IsSome (numbered m.standing.live i.number)
Needs s L (nodes.supply product ps p h) a m = Feeds L product a m.standing.live
Needs s L (nodes.produce i product host) a m = IsSome (numbered m.standing.live i.number)
Needs s L other a m = Unit {0}

pub legal_rests : {s : Scene} (L : Free) {k : ℕ} {x : Node} {answer : Answer} {m m' : Moment} → Legal s k x m answer m'
    → Begins x m → Needs s L x answer m → Path L m m'
legal_rests L (Legal.inactive _ _ _ _ _ _) b n h = h
legal_rests L (Legal.present _ _ _ _ _ _ _ _ _) b n h = h
legal_rests L (Legal.creating _ _ _ _ _ _ _ _ _) b n h = h
legal_rests L (Legal.absent _ _ x _ m _ p0 _ _ p3) b n h =
    legal_rests L p3 (owned-context (older 0) (m.standing.given + 1) x.scope).0
    (λ k e. inl (home-context m.standing.live x.scope (n x p0))) h
legal_rests L (Legal.too_deep _ _ _ _ _) b n h = h
legal_rests L (Legal.too_many _ _ _ _ _ _) b n h = h
legal_rests L (Legal.made _ _ _ _ o i _ m m₁ m₂ m' _ _ _ _ p4 p5 p6 p7) b n h =
    entry L _ m₂ m' p7 tt
    (legal_rests L p6 (begun i o m m₁ p4 p5) (begun-lives i o m m₁ p4 p5) (begin L i o m m₁ p4 p5 b (n i.number refl) h))
legal_rests L (Legal.broken _ _ _ o i f m m₁ m₂ m₃ m' _ _ _ p3 p4 p5 p6 p7) b n h =
    broke L i f p6 p7
    (legal_rests (Also L i.number) p5 (begun i o m m₁ p3 p4) (begun-lives i o m m₁ p3 p4)
    (begin (Also L i.number) i o m m₁ p3 p4 b (inr (inr refl)) (also-one L i.number m h)))
legal_rests L (Legal.uninjected _ _ _ _ _ _ _ p1) b n h = legal_rests L p1 b n h
legal_rests L (Legal.construction_failed _ _ _ _ _ _ _ _ _ p1 p2) b n h = legal_rests L p2 tt tt (legal_rests L p1 b n h)
legal_rests L (Legal.not_constructed _ _ _ _ _ _ _ _ p1 p2) b n h = legal_rests L p2 tt tt (legal_rests L p1 b n h)
legal_rests L (Legal.constructed _ _ _ _ _ _ _ _ _ _ _ p1 p2 p3) b n h =
    legal_rests L p3 tt tt (legal_rests L p2 tt tt (legal_rests L p1 b n h))
legal_rests L (Legal.produced_statically _ _ _ _ _ _ _ _ _ _ p3) b n h = legal_rests L p3 b n h
legal_rests {s} L (Legal.no_shared_host _ _ product d _ _ _ _ _ p2 p3 p4) b n h =
    legal_rests L p4 tt (shared s product.declaring d p2 p3) h
legal_rests {s} L (Legal.produced_on_shared _ _ i _ d product _ m _ _ _ _ _ p3 p4 p5 p6) b n h =
    legal_rests L p6 (omega (arith, b, legal_grows p5)) (stays-after p5 tt h.rises i.number n)
    (legal_rests L p5 tt (shared s product.declaring d p3 p4) h)
legal_rests L (Legal.no_own_host _ _ _ _ f m _ _ _ _ _ p4) b n h = legal_rests L p4 tt (refused L Nobody f m.standing.live) h
legal_rests L (Legal.produced_on_own _ c i _ _ _ _ m _ _ _ _ _ _ _ _ p5 p6 p7) b n h =
    destroyed L p7
    (legal_rests (Also L c) p6 (omega (arith, b, legal_grows p5)) (stays-after p5 tt h.rises i.number n)
    (legal_rests (Also L c) p5 tt (own L c m.standing.live) (also-one L c m h)))
legal_rests L (Legal.unsupplied _ _ _ _ _ _ _ _ p0) b n h = legal_rests L p0 b n h
legal_rests L (Legal.run_statically _ _ _ _ _ _ _ _ _ p0 p1) b n h = legal_rests L p1 tt tt (legal_rests L p0 b n h)
legal_rests L (Legal.run_on_host _ _ _ _ _ _ _ _ _ _ p0 p1) b n h = legal_rests L p1 tt tt (legal_rests L p0 b n h)
legal_rests L (Legal.no_more_points _ _ _ _ _ _) b n h = h
legal_rests L (Legal.proxy_injected _ _ _ _ _ _ _ _ _ _ _ _ p3) b n h = legal_rests L p3 b n h
legal_rests L (Legal.dependent_injected _ _ _ i _ _ _ _ _ _ _ _ _ _ p3 p4) b n h =
    legal_rests L p4 (omega (arith, b, legal_grows p3)) (stays-after p3 (omega (arith, b)) h.rises i.number n)
    (legal_rests L p3 (omega (arith, b)) (λ k e. inl n) h)
legal_rests L (Legal.injection_failed _ _ _ _ _ _ _ _ _ _ _ _ p3) b n h = legal_rests L p3 (omega (arith, b)) (λ k e. inl n) h
legal_rests L (Legal.no_more_params _ _ _ _ _ _ _) b n h = h
legal_rests L (Legal.proxy_supplied _ _ _ _ _ _ _ _ _ _ _ _ _ p3) b n h = legal_rests L p3 b n h
legal_rests L (Legal.dependent_supplied _ p c d product _ had _ a m m₁ _ _ _ _ p3 p4) b n h =
    let owned = owned-param product p m.standing.given b in
    legal_rests L p4 (given-more product m.standing.given m₁.standing.given b (legal_grows p3))
    (feeds-on L product a m.standing.live m₁.standing.live (stays-after p3 owned h.rises) n)
    (legal_rests L p3 owned (houses-param L c d had product p m.standing.live (goes-on p4) n) h)
legal_rests L (Legal.supply_failed _ p _ product _ _ _ f m _ _ _ _ p3) b n h =
    legal_rests L p3 (owned-param product p m.standing.given b) (refused L (for_param product p) f m.standing.live) h
legal_rests L (Legal.linked _ _ _ _ _ _ _ _ _ _ _ _ _ p2) b n h = legal_rests L p2 tt tt h
legal_rests L (Legal.bare _ _ _ _ _ _ _ _ _ _ _) b n h = h
legal_rests L (Legal.targeted _ _ _ _ _ _ _ _ _ _ _ _ _ _ p3) b n h = legal_rests L p3 tt tt h
legal_rests L (Legal.frame_too_deep _ _ _ _ _ _ _) b n h = h
legal_rests L (Legal.framed _ _ _ _ _ _ _ _ m m₁ m₂ m' _ p1 p2 p3) b n h =
    entry L _ m₂ m' p3 tt (legal_rests L p2 tt tt (entry L _ m m₁ p1 tt h))
legal_rests L (Legal.out_of_budget _ _ _ _ _ _ _ _) b n h = h
legal_rests L (Legal.ended _ _ _ _ _ _ _ _ m m' _ p1 _ _) b n h = asking L m m' p1 h
legal_rests L (Legal.stopped _ _ _ _ _ _ m m' _ p1 _ _) b n h = asking L m m' p1 h
legal_rests L (Legal.went_on _ _ _ _ _ _ _ _ _ _ m m₁ _ _ _ p1 _ _ p4 p5) b n h =
    legal_rests L p5 tt tt (legal_rests L p4 tt tt (asking L m m₁ p1 h))
legal_rests L (Legal.touched _ _ c seat _ x r m m' _ p1) b n h = touch L c seat.actor x m r m' p1 h
legal_rests L (Legal.called _ _ _ _ _ _ _ _ _ m m₁ m₂ m' _ _ p2 p3 p4) b n h =
    entry L _ m₂ m' p4 tt (legal_rests L p3 tt tt (entry L _ m m₁ p2 tt h))
legal_rests L (Legal.fired _ _ _ _ _ _ _ _ _ m m₁ m₂ m' _ _ p2 p3 p4) b n h =
    entry L _ m₂ m' p4 tt (legal_rests L p3 tt tt (entry L _ m m₁ p2 tt h))
legal_rests L (Legal.proceeded _ _ _ _ _ _ _ _ m m₁ m₂ m' _ _ p2 p3 p4) b n h =
    entry L _ m₂ m' p4 tt (legal_rests L p3 tt tt (entry L _ m m₁ p2 tt h))
legal_rests L (Legal.unreached _ _ _ _ _ _ _ _ p0) b n h = legal_rests L p0 tt tt h
legal_rests L (Legal.called_managed _ _ _ _ _ _ _ _ _ _ _ p0 _ p2) b n h = legal_rests L p2 tt tt (legal_rests L p0 tt tt h)
legal_rests L (Legal.called_product _ _ _ _ _ _ _ _ _ p0 _ _) b n h = legal_rests L p0 tt tt h
legal_rests {s} L (Legal.reached_shared _ _ _ c x _ _ _ p0 p1 p2) b n h = legal_rests L p2 tt (shared s c.bean x p0 p1) h
legal_rests L (Legal.reached_own _ _ _ _ _ _ _ _ _ _) b n h = h
legal_rests L (Legal.all_notified _ _ _ _ _ _) b n h = h
legal_rests L (Legal.notified _ _ _ _ _ _ _ _ _ _ _ p1 p2) b n h = legal_rests L p2 tt tt (legal_rests L p1 tt tt h)
legal_rests L (Legal.notification_failed _ _ _ _ _ _ _ _ _ p1) b n h = legal_rests L p1 tt tt h
legal_rests L (Legal.skipped _ _ _ _ _ m m' _ _ _ p3) b n h = entry L _ m m' p3 tt h
legal_rests {s} L (Legal.unattended_shared _ o _ x _ _ _ _ p0 _ _ p3 p4) b n h = legal_rests L p4 tt (shared s o.bean x p0 p3) h
legal_rests {s} L (Legal.attended_shared _ o _ x _ _ _ _ _ _ p0 _ _ p3 p4 p5) b n h =
    legal_rests L p5 tt tt (legal_rests L p4 tt (shared s o.bean x p0 p3) h)
legal_rests L (Legal.unattended_own _ _ _ _ _ f m _ _ _ _ _ p4) b n h = legal_rests L p4 tt (refused L Nobody f m.standing.live) h
legal_rests L (Legal.attended_own _ _ _ _ c _ _ m _ _ _ _ _ _ _ p4 p5 p6) b n h =
    destroyed L p6
    (legal_rests (Also L c) p5 tt tt (legal_rests (Also L c) p4 tt (own L c m.standing.live) (also-one L c m h)))
legal_rests L (Legal.not_supplied _ _ _ _ had _ f m _ _ p0 p1) b n h =
    held-destroyed L p1 (legal_rests (AlsoHeld L had) p0 tt (held-free L had (Some f)) (also-held L had m h))
legal_rests L (Legal.attended _ _ _ _ had _ _ _ m _ _ _ p0 p1 p2) b n h =
    held-destroyed L p2
    (legal_rests (AlsoHeld L had) p1 tt tt (legal_rests (AlsoHeld L had) p0 tt (held-free L had None) (also-held L had m h)))

-- ---- commands

uses_rests : (L : Free) {s : Scene} {i : InstanceId} {u : Use} {m : Moment} {o : Outcome} {m' : Moment} → Uses s i u m o m' → Path L m m'
uses_rests L (Uses.called _ _ _ _ _ _ _ p1) h = legal_rests L p1 tt tt h
uses_rests L other h = h

pub runs_rests : (L : Free) {s : Scene} {c : Command} {m : Moment} {o : Outcome} {m' : Moment} → Runs s c m o m' → Path L m m'
runs_rests L {s} (Runs.refused_shared b x _ _ _ _ p0 p1 p2) h = legal_rests L p2 tt (shared s b x p0 p1) h
runs_rests L {s} (Runs.used_shared b x _ _ _ _ _ _ p0 p1 p2 p3) h = uses_rests L p3 (legal_rests L p2 tt (shared s b x p0 p1) h)
runs_rests L (Runs.refused_own _ _ _ f m _ _ _ p2) h = legal_rests L p2 tt (refused L Nobody f m.standing.live) h
runs_rests L (Runs.used_own _ _ _ n _ m _ _ _ _ _ p2 p3 p4) h =
    destroyed L p4 (uses_rests (Also L n) p3 (legal_rests (Also L n) p2 tt (own L n m.standing.live) (also-one L n m h)))
runs_rests L (Runs.fired _ _ _ _ _ p0) h = legal_rests L p0 tt tt h

-- ---- laws

abbrev NoneFree : Free
NoneFree n o = ⊥

rooted-home : (live : List Instance) → IsRooted live → AreHome NoneFree live
rooted-home live a = all-weaker (λ z. IsHome live z.owner) (λ z. IsHome live z.owner ⊎ ⊥) live (λ z h. inl h) a

home-rooted : (live : List Instance) → AreHome NoneFree live → IsRooted live
home-rooted live a = grind (arith, all-weaker)

rests : (a : Standing) → IsRising a.given a.live → IsRooted a.live → Rests NoneFree (beginning a)
rests a r h = record { rises = r; home = rooted-home a.live h }

pub runs_rooted : {s : Scene} {c : Command} {m : Moment} {o : Outcome} {m' : Moment} → Runs s c m o m' → Rises m.standing
    → IsRooted m.standing.live → IsRooted m'.standing.live
runs_rooted {m = m} {m' = m'} p r h =
    home-rooted m'.standing.live (runs_rests NoneFree p (record { rises = r; home = rooted-home m.standing.live h })).home

pub run_rooted : {s : Scene} {c : Command} {a : Standing} {t : List Entry} {o : Outcome} {b : Standing} → LegalRun s c a t o b
    → IsRising a.given a.live → IsRooted a.live → IsRooted b.live
run_rooted l r h = subst (λ (x : Standing). IsRooted x.live) (sym l.leaves) (runs_rooted l.runs r h)

pub run_rises : {s : Scene} {c : Command} {a : Standing} {t : List Entry} {o : Outcome} {b : Standing} → LegalRun s c a t o b
    → IsRising a.given a.live → IsRooted a.live → IsRising b.given b.live
run_rises {a = a} l r h = subst (λ (x : Standing). IsRising x.given x.live) (sym l.leaves) (runs_rests NoneFree l.runs (rests a r h)).rises

pub request_end_rooted : {s : Scene} {a : Standing} {t : List Entry} {b : Standing} → LegalRequestEnd s a t b
    → IsRising a.given a.live → IsRooted a.live → IsRooted b.live
request_end_rooted {a = a} l r h =
    subst (λ (x : Standing). IsRooted x.live) (sym l.leaves)
    (home-rooted l.end.standing.live (ends NoneFree l.ends (rests a r h)).home)

pub request_end_rises : {s : Scene} {a : Standing} {t : List Entry} {b : Standing} → LegalRequestEnd s a t b
    → IsRising a.given a.live → IsRooted a.live → IsRising b.given b.live
request_end_rises {a = a} l r h =
    subst (λ (x : Standing). IsRising x.given x.live) (sym l.leaves) (ends NoneFree l.ends (rests a r h)).rises

-- both contexts have ended
both-ended : {s : Scene} {a : Standing} {t : List Entry} {b : Standing} → (l : LegalEnd s a t b) → IsRising a.given a.live
    → IsRooted a.live → Rests NoneFree l.end
both-ended {a = a} l r h = ends NoneFree l.then (ends NoneFree l.first (rests a r h))

pub end_rooted : {s : Scene} {a : Standing} {t : List Entry} {b : Standing} → LegalEnd s a t b
    → IsRising a.given a.live → IsRooted a.live → IsRooted b.live
end_rooted l r h = subst (λ (x : Standing). IsRooted x.live) (sym l.leaves) (home-rooted l.end.standing.live (both-ended l r h).home)

pub end_rises : {s : Scene} {a : Standing} {t : List Entry} {b : Standing} → LegalEnd s a t b
    → IsRising a.given a.live → IsRooted a.live → IsRising b.given b.live
end_rises l r h = subst (λ (x : Standing). IsRising x.given x.live) (sym l.leaves) (both-ended l r h).rises

pub commands_keep_rooted : CommandsKeepRooted
commands_keep_rooted = record {
  run = λ s c a t o b l r h. (run_rises l r h, run_rooted l r h);
  request_end = λ s a t b l r h. (request_end_rises l r h, request_end_rooted l r h);
  end = λ s a t b l r h. (end_rises l r h, end_rooted l r h);
}

-- the oldest could only have been made for an older one
none-stands : (live : List Instance) (given : ℕ) → IsRising given live → IsRooted live
    → AllByRecursion (λ z. is_of scopes.Request z.owner ≡ false) live → AllByRecursion (λ z. is_of scopes.Application z.owner ≡ false) live
    → live ≡ []
none-stands [] given r h a b = refl
none-stands (x ∷ xs) given r h a b = absurd (by x.owner h.0 r.1 a.0 b.0)
  where
    -- none is older than the first
    late : (n : ℕ) → n < x.id.number → IsSome (numbered (x ∷ xs) n) → ⊥
    late n low there =
        let one = some-of (numbered (x ∷ xs) n) there in
        let found = found-such (λ z. x.id.number ≤ z.id.number) (of_number n) (x ∷ xs) one.0 (
          omega arith,
          all-weaker (λ z. x.id.number < z.id.number) (λ z. x.id.number ≤ z.id.number) xs (λ z l. omega (arith, l))
              (all-above x.id.number given xs r.2),
        ) one.1 in
        let is : one.0.id.number ≡ n = grind (arith, found.1) in
        absurd (omega (arith, found.0, is, low))

    by : (o : Owner) → IsHome (x ∷ xs) o → IsOwnerOf x.id.number o → is_of scopes.Request o ≡ false
        → is_of scopes.Application o ≡ false → ⊥
    by (Point n actor p) home owned p0 p1 = late n owned home
    by Nobody home owned p0 p1 = absurd home
    by other home owned p0 p1 = cc

pub both_ends_leave_nothing : BothEndsLeaveNothing
both_ends_leave_nothing s a t b r h l =
    let end = both-ended l r h in
    let nothing = none-stands l.end.standing.live l.end.standing.given end.rises (home-rooted l.end.standing.live end.home)
    (ends-all (λ id o. is_of scopes.Request o ≡ false) l.then (context-gone l.first)) (context-gone l.then) in
    ap (λ (x : Standing). x.live) l.leaves ∙ nothing
