-- The cost of live instances.
use Rattle.std.proofs.Common.{◌≡◌, ℕ, ◌+◌, ◌≤◌, Bool, true, false, not, ◌==◌, List, [], ◌∷◌, Some, refl, arith, map, if◌then◌else◌, nat_le}
use Rattle.std.proofs.Common.{subst}
use Rattle.std.specs.List.{AllByRecursion}
use Rattle.base_numbers.proofs.Numbers.{==-refl}
use Rattle.cdi_model.specs.declared.outcome.Val.{Val}
use Rattle.cdi_contexts.proofs.Last.{last_of_all}
use Rattle.cdi_contexts.specs.{Standing.without, Standing.keep, Standing.last_where, declared.instance.Instance.Instance}
use Rattle.cdi_contexts.specs.declared.instance.{InstanceId.InstanceId, Owner.Owner}
use Rattle.cdi_scene.specs.declared.scene.Scene.{Scene}
use Rattle.cdi_ending.specs.Room.{bean_cost, cost_where, cost_from, cost_at, IsCounted}

-- ---- what counts

share-le : (a b : Bool) (c : ℕ) → (a ≡ true → b ≡ true) → (if a then c else 0) ≤ (if b then c else 0)
share-le true true c h = omega arith
share-le true false c h = let e : false ≡ true = h refl in cc
share-le false b c h = omega arith

share-sum : (a b d : Bool) (c : ℕ) → (a ≡ true → d ≡ true) → (b ≡ true → d ≡ true) → (a ≡ true → b ≡ false)
    → (if a then c else 0) + (if b then c else 0) ≤ (if d then c else 0)
share-sum true true d c f g h = let e : true ≡ false = h refl in cc
share-sum true false d c f g h = rw (f refl) (omega arith)
share-sum false b d c f g h = omega (arith, share-le b d c g)

-- where less counts, the cost is less
cost-le : (s : Scene) (f g : ℕ → Bool) → ((n : ℕ) → f n ≡ true → g n ≡ true) → (live : List Instance)
    → cost_where s f live ≤ cost_where s g live
cost-le s f g h [] = omega arith
cost-le s f g h (i ∷ is) =
    let n = i.id.number in
    omega (arith, share-le (f n) (g n) (bean_cost s i.id.bean) (h n), cost-le s f g h is)

cost-sum : (s : Scene) (f g d : ℕ → Bool) → ((n : ℕ) → f n ≡ true → d n ≡ true) → ((n : ℕ) → g n ≡ true → d n ≡ true)
    → ((n : ℕ) → f n ≡ true → g n ≡ false) → (live : List Instance)
    → cost_where s f live + cost_where s g live ≤ cost_where s d live
cost-sum s f g d a b h [] = omega arith
cost-sum s f g d a b h (i ∷ is) =
    let n = i.id.number in
    omega (arith, share-sum (f n) (g n) (d n) (bean_cost s i.id.bean) (a n) (b n) (h n), cost-sum s f g d a b h is)

-- from a greater number on the cost is less
pub cost_from-le : (s : Scene) (low floor : ℕ) (live : List Instance) → low ≤ floor → cost_from s floor live ≤ cost_from s low live
cost_from-le s low floor live h = cost-le s (λ n. nat_le floor n) (λ n. nat_le low n) (λ n e. grind arith) live

-- what has a number costs beside what is younger
pub cost_from-at : (s : Scene) (n : ℕ) (live : List Instance) → cost_at s n live + cost_from s (n + 1) live ≤ cost_from s n live
cost_from-at s n live =
    cost-sum s (λ m. m == n) (λ m. nat_le (n + 1) m) (λ m. nat_le n m) (λ m e. grind arith) (λ m e. grind arith)
    (λ m e. grind arith) live

-- ---- what changes leave of it

kept_id : (v : Val) (b : Bool) (i : Instance) → (let k : Instance = (if b then record i { state = v } else i) in k).id ≡ i.id
kept_id v true i = refl
kept_id v false i = refl

pub cost-kept : (s : Scene) (f : ℕ → Bool) (n : ℕ) (v : Val) (live : List Instance)
    → cost_where s f (map (keep n v) live) ≡ cost_where s f live
cost-kept s f n v [] = refl
cost-kept s f n v (i ∷ is) = rw (kept_id v (i.id.number == n) i, cost-kept s f n v is) refl

without_if : (s : Scene) (f : ℕ → Bool) (b : Bool) (i : Instance) (is js : List Instance) → cost_where s f js ≤ cost_where s f is
    → cost_where s f (if not b then i ∷ js else js) ≤ cost_where s f (i ∷ is)
without_if s f true i is js h = omega (arith, h)
without_if s f false i is js h = omega (arith, h)

pub cost-without : (s : Scene) (f : ℕ → Bool) (n : ℕ) (live : List Instance) → cost_where s f (without n live) ≤ cost_where s f live
cost-without s f n [] = omega arith
cost-without s f n (i ∷ is) = without_if s f (i.id.number == n) i is (without n is) (cost-without s f n is)

others_if : (s : Scene) (f : ℕ → Bool) (b : Bool) (i : Instance) (is js : List Instance) → (b ≡ true → f i.id.number ≡ false)
    → cost_where s f is ≤ cost_where s f js → cost_where s f (i ∷ is) ≤ cost_where s f (if not b then i ∷ js else js)
others_if s f true i is js e h = rw (e refl) (omega (arith, h))
others_if s f false i is js e h = omega (arith, h)

along : (f : ℕ → Bool) (b : Bool) (m n : ℕ) → f n ≡ b → (m == n) ≡ true → f m ≡ b
along f b m n h e = let same : n ≡ m = grind arith in subst (λ (x : ℕ). f x ≡ b) same h

-- where its number does not count
pub cost-others : (s : Scene) (f : ℕ → Bool) (n : ℕ) → f n ≡ false → (live : List Instance)
    → cost_where s f live ≤ cost_where s f (without n live)
cost-others s f n h [] = omega arith
cost-others s f n h (i ∷ is) =
    others_if s f (i.id.number == n) i is (without n is) (along f false i.id.number n h) (cost-others s f n h is)

falls_if : (s : Scene) (f : ℕ → Bool) (n : ℕ) (b : Bool) (i : Instance) (is js : List Instance)
    → (i.id.number == n) ≡ b → (b ≡ true → f i.id.number ≡ true)
    → cost_where s f js + cost_at s n is ≤ cost_where s f is
    → cost_where s f (if not b then i ∷ js else js) + cost_at s n (i ∷ is) ≤ cost_where s f (i ∷ is)
falls_if s f n true i is js e c h = rw (e, c refl) (omega (arith, h))
falls_if s f n false i is js e c h = rw e (omega (arith, h))

-- where its number counts
pub cost-falls : (s : Scene) (f : ℕ → Bool) (n : ℕ) → f n ≡ true → (live : List Instance)
    → cost_where s f (without n live) + cost_at s n live ≤ cost_where s f live
cost-falls s f n h [] = omega arith
cost-falls s f n h (i ∷ is) =
    falls_if s f n (i.id.number == n) i is (without n is) refl (along f true i.id.number n h) (cost-falls s f n h is)

-- ---- the youngest is among them

abbrev Costs : Scene → List Instance → Instance → Type 0
Costs s live i = IsCounted s i.id live

costs_later : (s : Scene) (i : Instance) (live is : List Instance) → AllByRecursion (Costs s live) is
    → AllByRecursion (Costs s (i ∷ live)) is
costs_later s i live [] a = tt
costs_later s i live (j ∷ js) a = (omega (arith, a.0), costs_later s i live js a.1)

all_counted : (s : Scene) (live : List Instance) → AllByRecursion (Costs s live) live
all_counted s [] = tt
all_counted s (i ∷ is) = (rw (==-refl i.id.number) (omega arith), costs_later s i is is (all_counted s is))

pub last_counted : (s : Scene) (f : Owner → Bool) (live : List Instance) (d : InstanceId) → last_where f live ≡ Some d
    → IsCounted s d live
last_counted s f live d e =
    let y = last_of_all (Costs s live) f live d (all_counted s live) e in
    subst (λ (id : InstanceId). IsCounted s id live) y.3 y.1

-- an instance costs what its own destruction does, and what is younger
pub counted_costs : (s : Scene) (id : InstanceId) (live : List Instance) → IsCounted s id live
    → bean_cost s id.bean + cost_from s (id.number + 1) live ≤ cost_from s id.number live
counted_costs s id live h = omega (arith, h, cost_from-at s id.number live)

-- an instance that goes takes its cost with it
pub gone_costs : (s : Scene) (low : ℕ) (id : InstanceId) (live : List Instance) → low ≤ id.number → IsCounted s id live
    → cost_from s low (without id.number live) + bean_cost s id.bean ≤ cost_from s low live
gone_costs s low id live below h =
    let counts : nat_le low id.number ≡ true = grind arith in
    omega (arith, h, cost-falls s (λ n. nat_le low n) id.number counts live)
