-- Where an instance stands among the live ones, whose numbers rise.
use Rattle.std.proofs.Common.{◌≡◌, ◌≢◌, ℕ, zero, suc, ◌<◌, ◌≤◌, Bool, true, false, not, ◌==◌, cond, if◌then◌else◌, List, [], ◌∷◌, map}
use Rattle.std.proofs.Common.{length, get_or, set, Option, Some, None, Result, Ok, Err, refl, arith, ap, sym, subst, ◌∙◌}
use Rattle.std.specs.{List.remove, List.All, List.Sorted.IsSearchInRange, List.Sorted.IsBinarySearchResult, Result.result_ok}
use Rattle.std.specs.Ordering.{nat_cmp, ordering_index}
use Rattle.std.proofs.lemmas.{Cmp.ranked, Bool.Decides.nat_tests, List.Elements.All-tail, Bool.cond-false}
use Rattle.cdi_model.specs.declared.outcome.Val.{Val}
use Rattle.cdi_contexts.specs.Standing.{numbered, without, finish, keep}
use Rattle.cdi_contexts.specs.{Places.IsPlace, Rising.IsRising, Rising.RisesFrom, Storage.Storage, declared.instance.Instance.Instance}

-- the number of the instance at a place
abbrev pub number_at : List Instance → ℕ → Instance → ℕ
number_at live k d = (get_or live k d).id.number

-- ---- numbers rise along the places

pub above : (low given : ℕ) (live : List Instance) (k : ℕ) (d : Instance) → RisesFrom low given live → k < length live
    → low < number_at live k d
above low given [] k d r h = omega (arith, h)
above low given (i ∷ is) zero d r h = r.0
above low given (i ∷ is) (suc k) d r h =
    let rest = above i.id.number given is k d r.2 (omega (arith, h)) in
    omega (arith, r.0, rest)

pub along : (low given : ℕ) (live : List Instance) (j k : ℕ) (d : Instance) → RisesFrom low given live → j ≤ k → k < length live
    → number_at live j d ≤ number_at live k d
along low given [] j k d r h b = omega (arith, b)
along low given (i ∷ is) zero zero d r h b = omega arith
along low given (i ∷ is) zero (suc k) d r h b = grind (arith, i.id.number, r.2, above)
along low given (i ∷ is) (suc j) zero d r h b = omega (arith, h)
along low given (i ∷ is) (suc j) (suc k) d r h b = along i.id.number given is j k d r.2 (omega (arith, h)) (omega (arith, b))

-- ---- what the search answers

compared : (x y n : ℕ) → x ≤ y → ordering_index (nat_cmp x n) ≤ ordering_index (nat_cmp y n)
compared x y n h = grind (arith, nat_tests)

pub placed : (given n : ℕ) (live : List Instance) (r : Result ℕ ℕ) → IsRising given live → IsSearchInRange r (length live)
    → IsBinarySearchResult (λ i. nat_cmp i.id.number n) live r → IsPlace live n (result_ok r)
placed given n live (Ok k) rises bound here = (bound, λ d. ranked _ n _ (sym (here d)))
placed given n live (Err k) rises bound parted =
    let parts = parted (λ i j d h b. compared (number_at live i d) (number_at live j d) n (along 0 given live i j d rises h b)) in
    λ j d h same.
    let low = λ (b : j < k). ranked _ n _ (sym (parts.0 j d (omega arith) b)) in
    let high = λ (b : k ≤ j). ranked _ n _ (sym (parts.1 j d b h)) in
    grind (arith, low, high)

-- ---- at no place

all_above : (low given n : ℕ) (live : List Instance) → RisesFrom low given live → n ≤ low → All (λ i. i.id.number ≢ n) live
all_above low given n live r h k d b same = omega (arith, above low given live k d r b, h, same)

abbrev IsOther : ℕ → List Instance → Type 0
IsOther n live = All (λ i. i.id.number ≢ n) live

other-head : (n : ℕ) (i : Instance) (is : List Instance) → IsOther n (i ∷ is) → (i.id.number == n) ≡ false
other-head n i is a = let differs = a 0 i (omega arith) in grind (arith, nat_tests, differs)

other-tail : (n : ℕ) (i : Instance) (is : List Instance) → IsOther n (i ∷ is) → IsOther n is
other-tail n i is a = All-tail (λ (x : Instance). x.id.number ≢ n) i is a

pub numbered_nowhere : (n : ℕ) (live : List Instance) → IsPlace live n None → numbered live n ≡ None
numbered_nowhere n [] a = refl
numbered_nowhere n (i ∷ is) a =
    cond-false (i.id.number == n) (Some i) (numbered is n) (other-head n i is a) ∙ numbered_nowhere n is (other-tail n i is a)

kept : (b : Bool) (i : Instance) (is : List Instance) → b ≡ false → cond (not b) (i ∷ is) is ≡ i ∷ is
kept b i is h = grind arith

pub without_nowhere : (n : ℕ) (live : List Instance) → IsPlace live n None → without n live ≡ live
without_nowhere n [] a = refl
without_nowhere n (i ∷ is) a =
    kept (i.id.number == n) i (without n is) (other-head n i is a)
    ∙ ap (λ rest. i ∷ rest) (without_nowhere n is (other-tail n i is a))

-- it changes the instance with number n alone
abbrev Changes : ℕ → (Instance → Instance) → Type 0
Changes n f = (i : Instance) → (i.id.number == n) ≡ false → f i ≡ i

map_nowhere : (n : ℕ) (f : Instance → Instance) (live : List Instance) → Changes n f → IsPlace live n None → map f live ≡ live
map_nowhere n f [] c a = refl
map_nowhere n f (i ∷ is) c a =
    ap (λ j. j ∷ map f is) (c i (other-head n i is a)) ∙ ap (λ rest. i ∷ rest) (map_nowhere n f is c (other-tail n i is a))

-- ---- at a place

taken : (b : Bool) (i : Instance) (o : Option Instance) → b ≡ true → cond b (Some i) o ≡ Some i
taken b i o h = grind arith

dropped : (b : Bool) (i : Instance) (is : List Instance) → b ≡ true → cond (not b) (i ∷ is) is ≡ is
dropped b i is h = grind arith

is_it : (a n : ℕ) → a ≡ n → (a == n) ≡ true
is_it a n h = grind (arith, nat_tests)

is_older : (a n : ℕ) → a < n → (a == n) ≡ false
is_older a n h = grind (arith, nat_tests)

-- the first is older than the one at a place of the rest
before : (n given : ℕ) (i : Instance) (is : List Instance) (k : ℕ) (d : Instance) → RisesFrom i.id.number given is
    → k < length is → number_at is k d ≡ n → (i.id.number == n) ≡ false
before n given i is k d r h e = is_older i.id.number n (omega (arith, above i.id.number given is k d r h, e))

-- the others behind the first are younger than it
behind : (n given : ℕ) (i : Instance) (is : List Instance) → RisesFrom i.id.number given is → i.id.number ≡ n → IsOther n is
behind n given i is r e = all_above i.id.number given n is r (omega (arith, e))

numbered-at : (low given n : ℕ) (live : List Instance) (k : ℕ) (d : Instance) → RisesFrom low given live → k < length live
    → number_at live k d ≡ n → numbered live n ≡ Some (get_or live k d)
numbered-at low given n [] k d r h e = absurd (omega (arith, h))
numbered-at low given n (i ∷ is) zero d r h e = taken (i.id.number == n) i (numbered is n) (is_it i.id.number n e)
numbered-at low given n (i ∷ is) (suc k) d r h e =
    let b : k < length is = omega (arith, h) in
    cond-false (i.id.number == n) (Some i) (numbered is n) (before n given i is k d r.2 b e)
    ∙ numbered-at i.id.number given n is k d r.2 b e

pub numbered_there : (given n : ℕ) (live : List Instance) (k : ℕ) (i : Instance) → IsRising given live → IsPlace live n (Some k)
    → i ≡ get_or live k i → Some i ≡ numbered live n
numbered_there given n live k i r p at = ap (λ x. Some x) at ∙ sym (numbered-at 0 given n live k i r p.0 (p.1 i))

without-at : (low given n : ℕ) (live : List Instance) (k : ℕ) (d : Instance) → RisesFrom low given live → k < length live
    → number_at live k d ≡ n → without n live ≡ remove live k
without-at low given n [] k d r h e = absurd (omega (arith, h))
without-at low given n (i ∷ is) zero d r h e =
    dropped (i.id.number == n) i (without n is) (is_it i.id.number n e) ∙ without_nowhere n is (behind n given i is r.2 e)
without-at low given n (i ∷ is) (suc k) d r h e =
    let b : k < length is = omega (arith, h) in
    kept (i.id.number == n) i (without n is) (before n given i is k d r.2 b e)
    ∙ ap (λ rest. i ∷ rest) (without-at i.id.number given n is k d r.2 b e)

pub without_there : (given n : ℕ) (live : List Instance) (k : ℕ) (d : Instance) → IsRising given live → IsPlace live n (Some k)
    → remove live k ≡ without n live
without_there given n live k d r p = sym (without-at 0 given n live k d r p.0 (p.1 d))

map-at : (low given n : ℕ) (f : Instance → Instance) (live : List Instance) (k : ℕ) (d : Instance) → Changes n f
    → RisesFrom low given live → k < length live → number_at live k d ≡ n → map f live ≡ set live k (f (get_or live k d))
map-at low given n f [] k d c r h e = absurd (omega (arith, h))
map-at low given n f (i ∷ is) zero d c r h e = ap (λ rest. f i ∷ rest) (map_nowhere n f is c (behind n given i is r.2 e))
map-at low given n f (i ∷ is) (suc k) d c r h e =
    let b : k < length is = omega (arith, h) in
    ap (λ j. j ∷ map f is) (c i (before n given i is k d r.2 b e))
    ∙ ap (λ rest. i ∷ rest) (map-at i.id.number given n f is k d c r.2 b e)

-- ---- what stands, seen from outside

pub place_along : (s t : Storage) (n : ℕ) (o : Option ℕ) → s ≡ t → IsPlace t.standing.live n o → IsPlace s.standing.live n o
place_along s t n o e p = subst (λ (x : Storage). IsPlace x.standing.live n o) (sym e) p

-- ---- what finishes and keeps

ready_other : (b : Bool) (i : Instance) → b ≡ false → (if b then record i { is_ready = true } else i) ≡ i
ready_other b i h = grind arith

produced_other : (b : Bool) (v : Val) (i : Instance) → b ≡ false → (if b then record i { is_ready = true; state = v } else i) ≡ i
produced_other b v i h = grind arith

kept_other : (b : Bool) (v : Val) (i : Instance) → b ≡ false → (if b then record i { state = v } else i) ≡ i
kept_other b v i h = grind arith

finish-changes : (n : ℕ) (product : Option Val) → Changes n (finish n product)
finish-changes n None i h = ready_other (i.id.number == n) i h
finish-changes n (Some v) i h = produced_other (i.id.number == n) v i h

keep-changes : (n : ℕ) (v : Val) → Changes n (keep n v)
keep-changes n v i h = kept_other (i.id.number == n) v i h

pub finish_there : (given n : ℕ) (product : Option Val) (live : List Instance) (k : ℕ) (i j : Instance) → IsRising given live
    → IsPlace live n (Some k) → i ≡ get_or live k i → j ≡ finish n product i → set live k j ≡ map (finish n product) live
finish_there given n product live k i j r p at is =
    ap (λ x. set live k x) (is ∙ ap (finish n product) at)
    ∙ sym (map-at 0 given n (finish n product) live k i (finish-changes n product) r p.0 (p.1 i))

pub finish_nowhere : (n : ℕ) (product : Option Val) (live : List Instance) → IsPlace live n None
    → map (finish n product) live ≡ live
finish_nowhere n product live p = map_nowhere n (finish n product) live (finish-changes n product) p

pub keep_there : (given n : ℕ) (v : Val) (live : List Instance) (k : ℕ) (i j : Instance) → IsRising given live
    → IsPlace live n (Some k) → i ≡ get_or live k i → j ≡ keep n v i → set live k j ≡ map (keep n v) live
keep_there given n v live k i j r p at is =
    ap (λ x. set live k x) (is ∙ ap (keep n v) at)
    ∙ sym (map-at 0 given n (keep n v) live k i (keep-changes n v) r p.0 (p.1 i))

pub keep_nowhere : (n : ℕ) (v : Val) (live : List Instance) → IsPlace live n None → map (keep n v) live ≡ live
keep_nowhere n v live p = map_nowhere n (keep n v) live (keep-changes n v) p
