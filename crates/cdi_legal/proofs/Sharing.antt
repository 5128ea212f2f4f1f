-- Along a legal tree at most one instance of a bean with a normal scope is live: one is created only where none is found.
use Rattle.cdi_legal.proofs.Common.{◌≡◌, ℕ, false, None, Some, refl, Outcome, InstanceId, Owner, Scene, Ends, End, Answer, Legal, Node}
use Rattle.cdi_legal.proofs.Common.{Runs, Command, Moment, put, is_create, Entry, ◌+◌, ◌≤◌, Bool, true, List, [], ◌∷◌, length, arith, ap}
use Rattle.cdi_legal.proofs.Common.{subst, sym, ◌∙◌, Scope, context_of, is_of, Standing, Target, Interceptor, Instance, is_normal, applied}
use Rattle.cdi_legal.proofs.Common.{effect, step, Effect, Option, Val, Null, bean_at, Bean, IsSingle, found, ◌++◌, same_Some, not, ◌==◌}
use Rattle.cdi_legal.proofs.Common.{map, if◌then◌else◌, without, keep, finish, is_beginning, nat_tests, ◌&&◌}
use Rattle.std.proofs.Common.{filter}
use Rattle.cdi_model.specs.declared.decl.Scope.TheVariants as scopes
use Rattle.cdi_legal.proofs.Along.{asks_for, ends_along, legal_along, runs_along, IsAlong}
use Rattle.cdi_legal.proofs.{Course.Given, Course.MayBegin, Everywhere.everywhere, Everywhere.kept_everywhere, Everywhere.Holds}
use Rattle.cdi_legal.specs.Single.{instances_of, strays_of}
use Rattle.cdi_legal.specs.Moment as effects
use Rattle.cdi_legal.specs.declared.entry.Entry.TheVariants as entries

-- ---- how many live instances have such an id and such an owner

abbrev pub Test : Type 0
Test = InstanceId → Owner → Bool

abbrev pub count : Test → List Instance → ℕ
count f live = length (filter (λ i. f i.id i.owner) live)

abbrev one_if : Bool → ℕ
one_if true = 1
one_if false = 0

counted : (b : Bool) (i : Instance) (is : List Instance) → length (if b then i ∷ is else is) ≡ one_if b + length is
counted b i is = grind arith

pub count-end : (f : Test) (live : List Instance) (i : Instance) → count f (live ++ i ∷ []) ≡ count f live + one_if (f i.id i.owner)
count-end f [] i = omega (arith, counted (f i.id i.owner) i [])
count-end f (j ∷ js) i = grind (arith, count-end f js i, counted, filter)

dropped : (f : Test) (b : Bool) (i : Instance) (is js : List Instance) → count f js ≤ count f is
    → count f (if b then i ∷ js else js) ≤ count f (i ∷ is)
dropped f b i is js h = grind (arith, i.id, i.owner, counted)

count-without : (f : Test) (n : ℕ) (live : List Instance) → count f (without n live) ≤ count f live
count-without f n [] = omega arith
count-without f n (i ∷ is) = dropped f (not (i.id.number == n)) i is (without n is) (count-without f n is)

-- it leaves whose an instance is
abbrev pub IsSame : (Instance → Instance) → Type 0
IsSame change = (i : Instance) → ((change i).id ≡ i.id) × ((change i).owner ≡ i.owner)

told : (f : Test) (i j : Instance) → j.id ≡ i.id → j.owner ≡ i.owner → f j.id j.owner ≡ f i.id i.owner
told f i j d o = rw (d, o) refl

count-map : (f : Test) (change : Instance → Instance) (live : List Instance) → IsSame change
    → count f (map change live) ≡ count f live
count-map f change [] same = refl
count-map f change (i ∷ is) same = grind (arith, count-map f change is same, counted, filter, map, told)

kept_if : (b : Bool) (i j : Instance) → j.id ≡ i.id → j.owner ≡ i.owner
    → ((if b then j else i).id ≡ i.id) × ((if b then j else i).owner ≡ i.owner)
kept_if b i j d o = grind arith

pub same-keep : (n : ℕ) (v : Val) → IsSame (keep n v)
same-keep n v i = kept_if (i.id.number == n) i (record i { state = v }) refl refl

pub same-finish : (n : ℕ) (product : Option Val) → IsSame (finish n product)
same-finish n None i = kept_if (i.id.number == n) i (record i { is_ready = true }) refl refl
same-finish n (Some v) i = kept_if (i.id.number == n) i (record i { is_ready = true; state = v }) refl refl

-- ---- no more of them than before

pub fewer_after : (x : Effect) (s : Standing) (f : Test) → is_beginning x ≡ false → count f (applied s x).live ≤ count f s.live
fewer_after (effects.begins id owner) s f h = cc
fewer_after (effects.readies number product) s f h = omega (arith, count-map f (finish number product) s.live (same-finish number product))
fewer_after (effects.ends number) s f h = count-without f number s.live
fewer_after (effects.stores number Target value) s f h = omega (arith, count-map f (keep number value) s.live (same-keep number value))
fewer_after (effects.stores number (Interceptor q) value) s f h = omega arith
fewer_after effects.none s f h = omega arith

-- ---- steps that begin no instance

single-fewer : (s : Scene) (x y : Standing) → ((f : Test) → count f y.live ≤ count f x.live) → IsSingle s x.live → IsSingle s y.live
single-fewer s x y h q = record {
  one = λ b bean there normal. omega (arith, h (λ id owner. id.bean == b), q.one b bean there normal);
  shared = λ b bean there normal.
      omega (arith, h (λ id owner. (id.bean == b) && not (is_of bean.scope owner)), q.shared b bean there normal);
}

pub single-calm : (s : Scene) (e : Entry) (x : Standing) → is_create e ≡ false → IsSingle s x.live → IsSingle s (step x e).live
single-calm s e x h q = single-fewer s x (step x e) (λ f. fewer_after (effect e) x f h) q

-- ---- where one is begun

-- no instance of a bean with a normal scope is live, and the owner is the context of that scope
abbrev NoneLives : Scene → ℕ → Owner → List Instance → Type 0
NoneLives s b o live =
    (x : Bean) → bean_at s b ≡ Some x → is_normal x.scope ≡ true → (length (instances_of b live) ≡ 0) × (is_of x.scope o ≡ true)

first_one : (c : Bool) (old new : ℕ) → new ≡ old + one_if c → old ≤ 1 → (c ≡ true → old ≡ 0) → new ≤ 1
first_one c old new e h none = grind arith

no_stray : (c d : Bool) (old new : ℕ) → new ≡ old + one_if (c && not d) → old ≡ 0 → (c ≡ true → d ≡ true) → new ≡ 0
no_stray c d old new e h inside = grind arith

is_it : (a b : ℕ) → (a == b) ≡ true → a ≡ b
is_it a b h = grind (arith, nat_tests)

by_create : {s : Scene} {b : ℕ} (i : InstanceId) (o : Owner) (m m' : Moment) → i.bean ≡ b → m' ≡ put (entries.Create i o) m
    → NoneLives s b o m.standing.live → IsSingle s m.standing.live → IsSingle s m'.standing.live
by_create {s} i o m m' e p may q =
    let begun : Instance = record {
      id = record { bean = i.bean; number = m.standing.given + 1 };
      owner = o;
      is_ready = false;
      state = Null;
    } in
    let more = λ (f : Test). ap (λ (x : Moment). count f x.standing.live) p ∙ count-end f m.standing.live begun in
    record {
      one = λ a x there normal.
          first_one (i.bean == a) _ _ (more (λ id owner. id.bean == a)) (q.one a x there normal)
          (λ t. subst (λ n. length (instances_of n m.standing.live) ≡ 0) (sym e ∙ is_it i.bean a t)
          (may x (subst (λ n. bean_at s n ≡ Some x) (sym (is_it i.bean a t) ∙ e) there) normal).0);
      shared = λ a x there normal.
          no_stray (i.bean == a) (is_of x.scope o) _ _ (more (λ id owner. (id.bean == a) && not (is_of x.scope owner)))
          (q.shared a x there normal)
          (λ t. (may x (subst (λ n. bean_at s n ≡ Some x) (sym (is_it i.bean a t) ∙ e) there) normal).1);
    }

-- where none is found, all are strays
unfound : (p r : Bool) (i : Instance) (rest : Option Instance) (all strays : ℕ) → (if p && r then Some i else rest) ≡ None
    → (rest ≡ None → all ≤ strays) → one_if p + all ≤ one_if (p && not r) + strays
unfound p r i rest all strays e h = grind arith

none_found : (b : ℕ) (scope : Scope) (live : List Instance) → found live scope b ≡ None
    → length (instances_of b live) ≤ length (strays_of b scope live)
none_found b scope [] e = omega arith
none_found b scope (i ∷ is) e = grind (arith, none_found b scope is, unfound, is_of, found, length, counted)

in_context : (scope : Scope) → is_normal scope ≡ true → is_of scope (context_of scope) ≡ true
in_context scopes.Dependent h = cc
in_context other h = refl

none_lives : (s : Scene) (b : ℕ) (o : Owner) (m : Moment) → MayBegin s b o m → IsSingle s m.standing.live → NoneLives s b o m.standing.live
none_lives s b o m may q x there normal =
    let same : may.bean ≡ x = same_Some may.bean x (sym may.there ∙ there) in
    let shared : is_normal may.bean.scope ≡ true = ap (λ (z : Bean). is_normal z.scope) same ∙ normal in
    let none : found m.standing.live x.scope b ≡ None =
    ap (λ (z : Bean). found m.standing.live z.scope b) (sym same) ∙ may.none shared in (
      omega (arith, none_found b x.scope m.standing.live none, q.shared b x there normal),
      ap (is_of x.scope) (may.owner shared ∙ ap (λ (z : Bean). context_of z.scope) same) ∙ in_context x.scope normal,
    )

-- ---- commands

abbrev pub SingleAt : Scene → Standing → Type 0
SingleAt s x = IsSingle s x.live

pub single_along : (s : Scene) → IsAlong s (MayBegin s) (Holds (SingleAt s))
single_along s = everywhere (SingleAt s) (single-calm s) s
    (λ b i o m may room of_bean q. by_create i o m (put (entries.Create i o) m) of_bean refl (none_lives s b o m may q) q)

pub ends_single : {s : Scene} {e : End} {m m' : Moment} → Ends s e m m' → IsSingle s m.standing.live → IsSingle s m'.standing.live
ends_single {s} p q = (ends_along (kept_everywhere (SingleAt s) (single-calm s)) p q).end

pub legal_single : {s : Scene} {k : ℕ} {x : Node} {a : Answer} {m m' : Moment} → Legal s k x m a m' → Given (asks_for (MayBegin s)) x m
    → IsSingle s m.standing.live → IsSingle s m'.standing.live
legal_single {s} l begins q = (legal_along (single_along s) l begins q).end

pub runs_single : {s : Scene} {c : Command} {m : Moment} {o : Outcome} {m' : Moment} → Runs s c m o m'
    → IsSingle s m.standing.live → IsSingle s m'.standing.live
runs_single {s} r q = (runs_along (single_along s) r q).end
