-- Two texts are no nearer than the numbers of their characters of one class are.
use Rattle.std.proofs.Common.{◌≡◌, ℕ, zero, suc, ◌+◌, ◌-◌, ◌≤◌, ◌<◌, Bool, true, false, ◌&&◌, not, List, [], ◌∷◌, Option, None, Some, min}
use Rattle.std.proofs.Common.{take, length, get_or, cond, fold, subst, if◌then◌else◌, nat_eq, refl, ap, ◌∙◌, arith, count_by}
use Rattle.std.proofs.lemmas.{Bool.and_parts, Bool.eqb-true, Bool.false≢true, Int.clamps, List.length-take-le, List.take_all}
use Rattle.std.proofs.lemmas.List.Sums.{count_by-le-length, count_by_more_no, count_by_more_yes}
use Rattle.strsim.specs.Edits.{cost, cost_at, osa_from, osa_row, osa_step, osa_table, swaps_at, OsaState}
use Rattle.strsim.proofs.EditLemmas.{cost_at_is}

module _ (p : ℕ → Bool) where
  -- one for a character of the class
  weight : ℕ → ℕ
  weight c = cond (p c) 1 0

  weight-least : (c : ℕ) → weight c ≤ 1
  unfolding weight
  weight-least c = grind arith

  counted-from : (n : ℕ) (xs : List ℕ) → fold (λ a x. a + cond (p x) 1 0) n xs ≡ n + count_by p xs
  counted-from n [] = omega arith
  counted-from n (x ∷ xs) = omega (arith, counted-from (n + cond (p x) 1 0) xs, counted-from (0 + cond (p x) 1 0) xs)

  counted-first : (x : ℕ) (xs : List ℕ) → count_by p (x ∷ xs) ≡ weight x + count_by p xs
  unfolding weight
  counted-first x xs = omega (arith, counted-from (0 + cond (p x) 1 0) xs)

  module _ (ys : List ℕ) where
    -- how many of the first characters are of the class
    upto : ℕ → ℕ
    upto j = count_by p (take j ys)

    upto-suc : (j : ℕ) → j < length ys → upto (suc j) ≡ upto j + weight (get_or ys j 0)
    unfolding upto weight
    upto-suc j within = by (p (get_or ys j 0)) refl
      where
        plus : suc j ≡ j + 1
        plus = omega arith

        by : (b : Bool) → p (get_or ys j 0) ≡ b → count_by p (take (suc j) ys) ≡ count_by p (take j ys) + cond b 1 0
        by true e = ap (λ n. count_by p (take n ys)) plus ∙ count_by_more_yes p ys j 0 within e
        by false e = ap (λ n. count_by p (take n ys)) plus ∙ count_by_more_no p ys j 0 within e ∙ omega arith

    -- a number is no less than two numbers are apart
    record Spans (d a b : ℕ) : Type 0 where
      pub over : a ≤ d + b
      pub under : b ≤ d + a

    spans-if : (swaps : Bool) (u v w t a b : ℕ) → Spans u a b → Spans v a b → Spans w a b → (swaps ≡ true → Spans t a b)
        → Spans (if swaps then min (min u (min v w)) t else min u (min v w)) a b
    spans-if true u v w t a b su sv sw st = record {
      over = omega (arith, clamps, su.over, sv.over, sw.over, (st refl).over);
      under = omega (arith, clamps, su.under, sv.under, sw.under, (st refl).under);
    }
    spans-if false u v w t a b su sv sw st = record {
      over = omega (arith, clamps, su.over, sv.over, sw.over);
      under = omega (arith, clamps, su.under, sv.under, sw.under);
    }

    -- a row tells how far a prefix is from each prefix
    abbrev Row : ℕ → (ℕ → ℕ) → Type 0
    Row count row = (j : ℕ) → j ≤ length ys → Spans (row j) count (upto j)

    same-cost : (x y : ℕ) → Spans (cost nat_eq x y) (weight x) (weight y)
    same-cost x y = by (nat_eq x y) refl
      where
        by : (b : Bool) → nat_eq x y ≡ b → Spans (cond b 0 1) (weight x) (weight y)
        by true e =
            let same : weight x ≡ weight y = ap weight (eqb-true x y e) in
            record { over = omega (arith, same); under = omega (arith, same) }
        by false e = record { over = omega (arith, weight-least x); under = omega (arith, weight-least y) }

    -- the last character, and what the prefix before it counts
    abbrev After : Option ℕ → ℕ → ℕ → Type 0
    After None before count = Unit {0}
    After (Some c) before count = count ≡ before + weight c

    swapped : (last : Option ℕ) (x : ℕ) (two : ℕ → ℕ) (before count j : ℕ) → suc j ≤ length ys → After last before count → Row before two
        → swaps_at last x ys j ≡ true → Spans (two (j - 1) + 1) (count + weight x) (upto (suc j))
    swapped None x two before count j within after row swaps = absurd (false≢true swaps)
    swapped (Some c) x two before count zero within after row swaps = absurd (false≢true swaps)
    swapped (Some c) x two before count (suc k) within after row swaps =
        let parts = and_parts (not (nat_eq x (get_or ys (suc k) 0)) && nat_eq x (get_or ys k 0)) (nat_eq (get_or ys (suc k) 0) c) swaps in
        let first = and_parts (not (nat_eq x (get_or ys (suc k) 0))) (nat_eq x (get_or ys k 0)) parts.0 in
        let one : weight x ≡ weight (get_or ys k 0) = ap weight (eqb-true x (get_or ys k 0) first.1) in
        let other : weight (get_or ys (suc k) 0) ≡ weight c = ap weight (eqb-true (get_or ys (suc k) 0) c parts.1) in
        let more = upto-suc (suc k) (omega arith) in
        let less = upto-suc k (omega arith) in
        let here = row k (omega arith) in
        let back : two (suc k - 1) ≡ two k = ap two (omega arith) in
        record {
          over = omega (arith, one, other, more, less, back, here.over, after);
          under = omega (arith, one, other, more, less, back, here.under, after);
        }

    next-row : (last : Option ℕ) (x : ℕ) (two row : ℕ → ℕ) (before count passed : ℕ) → After last before count → Row before two
        → Row count row → count ≤ passed → Row (count + weight x) (osa_row last x ys two row (passed + 1))
    unfolding osa_row upto
    next-row last x two row before count passed after far near least zero within =
        record { over = omega (arith, weight-least x); under = omega arith }
    next-row last x two row before count passed after far near least (suc j) within =
        let one = next-row last x two row before count passed after far near least j (omega arith) in
        let up = near (suc j) within in
        let diagonal = near j (omega arith) in
        let more = upto-suc j (omega arith) in
        let y = get_or ys j 0 in
        let costs = same-cost x y in
        let is = cost_at_is nat_eq x ys j 0 (omega arith) in
        spans-if (swaps_at last x ys j) (osa_row last x ys two row (passed + 1) j + 1) (row (suc j) + 1) (row j + cost_at nat_eq x ys j)
        (two (j - 1) + 1) (count + weight x) (upto (suc j))
        (record { over = omega (arith, one.over, more); under = omega (arith, one.under, more, weight-least y) })
        (record { over = omega (arith, up.over, weight-least x); under = omega (arith, up.under) })
        (record { over = omega (arith, diagonal.over, more, costs.over, is); under = omega (arith, diagonal.under, more, costs.under, is) })
        (λ swaps. swapped last x two before count j within after far swaps)

    -- the table so far is that of a prefix that counts so many
    record Tells (s : OsaState) (before count : ℕ) : Type 0 where
      pub far : Row before s.row_before
      pub near : Row count s.last_row
      pub last : After s.last_item before count
      pub least : count ≤ s.count

    told : (xs : List ℕ) (s : OsaState) (before count : ℕ) → Tells s before count
        → (b : ℕ) × Tells (osa_from ys s xs) b (count + count_by p xs)
    unfolding osa_from
    told [] s before count tells = (
      before,
      record {
        far = tells.far;
        near = λ j within.
            let here = tells.near j within in
            record { over = omega (arith, here.over); under = omega (arith, here.under) };
        last = after-none s.last_item before count (count + 0) (omega arith) tells.last;
        least = omega (arith, tells.least);
      },
    )
      where
        after-none : (o : Option ℕ) (b m n : ℕ) → m ≡ n → After o b m → After o b n
        after-none None b m n e after = tt
        after-none (Some c) b m n e after = omega (arith, e, after)
    told (x ∷ xs) s before count tells =
        let next : Tells (osa_step ys s x) count (count + weight x) = record {
          far = tells.near;
          near = next-row s.last_item x s.row_before s.last_row before count s.count tells.last tells.far tells.near tells.least;
          last = refl;
          least = omega (arith, tells.least, weight-least x);
        } in
        let rest = told xs (osa_step ys s x) count (count + weight x) next in
        let sum : count + weight x + count_by p xs ≡ count + count_by p (x ∷ xs) = omega (arith, counted-first x xs) in
        (rest.0, subst (λ n. Tells (osa_from ys (osa_step ys s x) xs) rest.0 n) sum rest.1)

    -- the first row
    begun : (j : ℕ) → j ≤ length ys → Spans j 0 (upto j)
    unfolding upto
    begun j within = record {
      over = omega arith;
      under = omega (arith, count_by-le-length p (take j ys), length-take-le j ys within);
    }

    whole : upto (length ys) ≡ count_by p ys
    unfolding upto
    whole = ap (count_by p) (take_all (length ys) ys (omega arith))

  -- ---- the distance

  -- two texts are no nearer than the numbers of their characters of the class are
  pub counts-apart : (xs ys : List ℕ) → (count_by p xs ≤ (osa_table xs ys).last_row (length ys) + count_by p ys)
      × (count_by p ys ≤ (osa_table xs ys).last_row (length ys) + count_by p xs)
  counts-apart xs ys =
      let start : Tells ys (record { row_before = λ j. j; last_row = λ j. j; last_item = None; count = 0 }) 0 0 = record {
        far = begun ys;
        near = begun ys;
        last = tt;
        least = omega arith;
      } in
      let end = (told ys xs (record { row_before = λ j. j; last_row = λ j. j; last_item = None; count = 0 }) 0 0 start).1 in
      let here = end.near (length ys) (omega arith) in
      (omega (arith, here.over, whole ys), omega (arith, here.under, whole ys))
