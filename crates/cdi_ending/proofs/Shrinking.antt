-- What ends leave of the live instances.
use Rattle.std.proofs.Common.{◌≡◌, ◌≢◌, ℕ, ◌<◌, ◌≤◌, Bool, true, false, not, ◌==◌, List, [], ◌∷◌, length, Option, Some, IsSome, refl, arith}
use Rattle.std.proofs.Common.{map, if◌then◌else◌}
use Rattle.cdi_model.specs.declared.outcome.Val.{Val}
use Rattle.cdi_contexts.specs.Standing.{Standing, without, keep, stored, gone, numbered}
use Rattle.cdi_contexts.specs.declared.instance.{Actor.Actor, Actor.TheVariants.Target, Actor.TheVariants.Interceptor, Instance.Instance}
use Rattle.cdi_ending.proofs.Costs.{cost-kept, cost-without, cost-others}
use Rattle.cdi_ending.specs.Room.{Shrinks, IsSteady}

same_live : (floor : ℕ) (a b : Standing) → b.given ≡ a.given → b.live ≡ a.live → Shrinks floor a b
same_live floor a b g e =
    record {
      given = g;
      few = rw e (omega arith);
      kept = λ j h k. rw e k;
      cheaper = λ s counts. rw e (omega arith);
      counted = λ s j h. rw e (omega arith);
    }

pub Shrinks-trans : (floor : ℕ) (a b c : Standing) → Shrinks floor a b → Shrinks floor b c → Shrinks floor a c
Shrinks-trans floor a b c p q =
    record {
      given = cc;
      few = omega (arith, p.few, q.few);
      kept = λ j h k. q.kept j h (p.kept j h k);
      cheaper = λ s counts. omega (arith, p.cheaper s counts, q.cheaper s counts);
      counted = λ s j h. omega (arith, p.counted s j h, q.counted s j h);
    }

pub Shrinks-lower : (floor low : ℕ) (a b : Standing) → low ≤ floor → Shrinks floor a b → Shrinks low a b
Shrinks-lower floor low a b h p =
    record {
      given = p.given;
      few = p.few;
      kept = λ j k. p.kept j (omega arith);
      cheaper = p.cheaper;
      counted = λ s j k. p.counted s j (omega arith);
    }

length-kept : (n : ℕ) (v : Val) (live : List Instance) → length (map (keep n v) live) ≡ length live
length-kept n v [] = refl
length-kept n v (i ∷ is) = omega (arith, length-kept n v is)

number_kept : (v : Val) (b : Bool) (i : Instance) → (let k : Instance = (if b then record i { state = v } else i) in k).id.number ≡
    i.id.number
number_kept v true i = refl
number_kept v false i = refl

some_if : (b : Bool) (i k : Instance) (r s : Option Instance) → (IsSome r → IsSome s) → IsSome (if b then Some i else r)
    → IsSome (if b then Some k else s)
some_if true i k r s f h = refl
some_if false i k r s f h = f h

numbered-kept : (n : ℕ) (v : Val) (live : List Instance) (j : ℕ) → IsSome (numbered live j) → IsSome (numbered (map (keep n v) live) j)
numbered-kept n v [] j h = h
numbered-kept n v (i ∷ is) j h =
    rw (number_kept v (i.id.number == n) i)
    (some_if (i.id.number == j) i (keep n v i) (numbered is j) (numbered (map (keep n v) is) j) (numbered-kept n v is j) h)

pub IsSteady-stored : (n : ℕ) (actor : Actor) (v : Val) (s : Standing) → IsSteady s (stored n actor v s)
IsSteady-stored n Target v s floor =
    record {
      given = refl;
      few = omega (arith, length-kept n v s.live);
      kept = λ j h k. numbered-kept n v s.live j k;
      cheaper = λ scene counts. omega (arith, cost-kept scene counts n v s.live);
      counted = λ scene j h. omega (arith, cost-kept scene (λ m. m == j) n v s.live);
    }
IsSteady-stored n (Interceptor q) v s floor = same_live floor s (stored n (Interceptor q) v s) refl refl

length_cond : (b : Bool) (i : Instance) (is js : List Instance) → length js ≤ length is
    → length (if b then i ∷ js else js) ≤ length (i ∷ is)
length_cond true i is js h = omega arith
length_cond false i is js h = omega arith

length-without : (n : ℕ) (live : List Instance) → length (without n live) ≤ length live
length-without n [] = omega arith
length-without n (i ∷ is) = length_cond (not (i.id.number == n)) i is (without n is) (length-without n is)

fewer_cond : (n : ℕ) (b : Bool) (i : Instance) (is : List Instance) → IsSome (if b then Some i else numbered is n)
    → (IsSome (numbered is n) → length (without n is) < length is)
    → length (if not b then i ∷ without n is else without n is) < length (i ∷ is)
fewer_cond n true i is h f = omega (arith, length-without n is)
fewer_cond n false i is h f = omega (arith, f h)

pub fewer : (n : ℕ) (live : List Instance) → IsSome (numbered live n) → length (without n live) < length live
fewer n [] h = cc
fewer n (i ∷ is) h = fewer_cond n (i.id.number == n) i is h (fewer n is)

other_cond : (n j : ℕ) (b : Bool) (i : Instance) (is : List Instance) → (i.id.number == n) ≡ b → j ≢ n
    → (IsSome (numbered is j) → IsSome (numbered (without n is) j)) → IsSome (if i.id.number == j then Some i else numbered is j)
    → IsSome (numbered (if not b then i ∷ without n is else without n is) j)
other_cond n j true i is e d f h =
    let apart : (i.id.number == j) ≡ false = grind arith in
    f (rw apart at h)
other_cond n j false i is e d f h = some_if (i.id.number == j) i i (numbered is j) (numbered (without n is) j) f h

numbered-without : (n : ℕ) (live : List Instance) (j : ℕ) → j ≢ n → IsSome (numbered live j) → IsSome (numbered (without n live) j)
numbered-without n [] j d h = h
numbered-without n (i ∷ is) j d h = other_cond n j (i.id.number == n) i is refl d (numbered-without n is j d) h

pub Shrinks-gone : (n : ℕ) (s : Standing) → Shrinks n s (gone n s)
Shrinks-gone n s =
    record {
      given = refl;
      few = length-without n s.live;
      kept = λ j h k. numbered-without n s.live j (λ e. absurd (omega arith)) k;
      cheaper = λ scene counts. cost-without scene counts n s.live;
      counted = λ scene j h. cost-others scene (λ m. m == j) n (grind arith) s.live;
    }
