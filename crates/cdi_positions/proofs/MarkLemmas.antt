-- Marks of words that have equally many each, one word after another.
use Rattle.cdi_positions.proofs.Common.{◌≡◌, ℕ, zero, suc, ◌+◌, ◌*◌, ◌<◌, ◌≤◌, Bool, true, false, List, [], ◌∷◌, ◌++◌, length, take, set}
use Rattle.cdi_positions.proofs.Common.{get_or, refl, sym, ap, ◌∙◌, arith, length-take, take_all, false≢true, count_below, is_marked}
use Rattle.cdi_positions.proofs.Common.{marked_count, marked_from, IsOutside}
use Rattle.std.proofs.lemmas.List.{take-append-le, get_or_append_left, get_or-append-add, set-append_left}
use Rattle.std.specs.Prelude.{if◌then◌else◌}
use Rattle.std.proofs.{Common.add-one, Common.zero-add, Common.length-append, lemmas.List.Elements.filter-append}
use Rattle.std.specs.List.{filter, flat_map}

pub marked_count-append : (a b : List Bool) → marked_count (a ++ b) ≡ marked_count a + marked_count b
marked_count-append a b = ap length (filter-append (λ m. m) a b) ∙ length-append (filter (λ m. m) a) (filter (λ m. m) b)

pub marked_count-le : (marks : List Bool) → marked_count marks ≤ length marks
marked_count-le [] = omega arith
marked_count-le (true ∷ ms) = omega (arith, marked_count-le ms)
marked_count-le (false ∷ ms) = omega (arith, marked_count-le ms)

pub count_below-le : (n : ℕ) (marks : List Bool) → count_below n marks ≤ n
count_below-le n marks = omega (arith, marked_count-le (take n marks), length-take n marks)

suc-more : (n : ℕ) (marks : List Bool) → is_marked marks n ≡ true → count_below (suc n) marks ≡ count_below n marks + 1
suc-more n [] h = cc
suc-more zero (m ∷ ms) h = ap (λ b. marked_count (b ∷ [])) h
suc-more (suc n) (true ∷ ms) h = omega (arith, suc-more n ms h)
suc-more (suc n) (false ∷ ms) h = suc-more n ms h

suc-same : (n : ℕ) (marks : List Bool) → is_marked marks n ≡ false → count_below (suc n) marks ≡ count_below n marks
suc-same zero [] h = refl
suc-same (suc n) [] h = refl
suc-same zero (m ∷ ms) h = ap (λ b. marked_count (b ∷ [])) h
suc-same (suc n) (true ∷ ms) h = ap suc (suc-same n ms h)
suc-same (suc n) (false ∷ ms) h = suc-same n ms h

-- where all are below a position, all are below a later one
pub count_below-past : (m n : ℕ) (marks : List Bool) → m ≤ n → count_below m marks ≡ marked_count marks
    → count_below n marks ≡ marked_count marks
count_below-past zero zero marks p h = h
count_below-past zero (suc n) [] p h = refl
count_below-past zero (suc n) (true ∷ ms) p h = absurd (omega (arith, h))
count_below-past zero (suc n) (false ∷ ms) p h = count_below-past zero n ms (omega arith) h
count_below-past (suc m) zero marks p h = absurd (omega arith)
count_below-past (suc m) (suc n) [] p h = refl
count_below-past (suc m) (suc n) (true ∷ ms) p h = ap suc (count_below-past m n ms (omega arith) (omega (arith, h)))
count_below-past (suc m) (suc n) (false ∷ ms) p h = count_below-past m n ms (omega arith) h

-- one position more, which is marked, or not
pub count_below_more : (n : ℕ) (marks : List Bool) → is_marked marks n ≡ true → count_below (n + 1) marks ≡ count_below n marks + 1
count_below_more n marks h = ap (λ k. count_below k marks) (add-one n) ∙ suc-more n marks h

pub count_below_same : (n : ℕ) (marks : List Bool) → is_marked marks n ≡ false → count_below (n + 1) marks ≡ count_below n marks
count_below_same n marks h = ap (λ k. count_below k marks) (add-one n) ∙ suc-same n marks h

same_take : (m n : ℕ) (marks : List Bool) → m ≡ n → take m marks ≡ take n marks
same_take m n marks e = ap (λ k. take k marks) e

same_set : (m n : ℕ) (marks : List Bool) (b : Bool) → m ≡ n → set marks m b ≡ set marks n b
same_set m n marks b e = ap (λ k. set marks k b) e

take-append-add : (xs ys : List Bool) (n : ℕ) → take (length xs + n) (xs ++ ys) ≡ xs ++ take n ys
take-append-add [] ys n = same_take (0 + n) n ys (omega arith)
take-append-add (x ∷ xs) ys n =
    same_take (suc (length xs) + n) (suc (length xs + n)) (x ∷ (xs ++ ys)) (omega arith) ∙ ap (λ zs. x ∷ zs) (take-append-add xs ys n)

set-append-add : (xs ys : List Bool) (n : ℕ) (b : Bool) → set (xs ++ ys) (length xs + n) b ≡ xs ++ set ys n b
set-append-add [] ys n b = same_set (0 + n) n ys b (omega arith)
set-append-add (x ∷ xs) ys n b =
    same_set (suc (length xs) + n) (suc (length xs + n)) (x ∷ (xs ++ ys)) b (omega arith) ∙ ap (λ zs. x ∷ zs) (set-append-add xs ys n b)

module _ (f : ℕ → List Bool) (k : ℕ) (long : (w : ℕ) → length (f w) ≡ k) where
  pub length-rows : (ws : List ℕ) → length (flat_map f ws) ≡ length ws * k
  length-rows [] = omega arith
  length-rows (w ∷ ws) = omega (arith, length-append (f w) (flat_map f ws), long w, length-rows ws)

  first : (j : ℕ) → zero * k + j ≡ j
  first j = omega arith

  none : zero * k ≡ zero
  none = omega arith

  later : (i j : ℕ) (w : ℕ) → suc i * k + j ≡ length (f w) + (i * k + j)
  later i j w = omega (arith, long w)

  -- the mark j of the word i
  pub at-row : (ws : List ℕ) (i j : ℕ) → i < length ws → j < k → is_marked (flat_map f ws) (i * k + j) ≡ is_marked (f (get_or ws i 0)) j
  at-row [] i j p q = absurd (omega arith)
  at-row (w ∷ ws) zero j p q =
      ap (is_marked (f w ++ flat_map f ws)) (first j) ∙ get_or_append_left (f w) (flat_map f ws) false j (omega (arith, long w))
  at-row (w ∷ ws) (suc i) j p q =
      ap (is_marked (f w ++ flat_map f ws)) (later i j w) ∙ get_or-append-add (f w) (flat_map f ws) (i * k + j) false
      ∙ at-row ws i j (omega arith) q

  pub set-row : (ws : List ℕ) (i j v : ℕ) (b : Bool) → i < length ws → j < k → f v ≡ set (f (get_or ws i 0)) j b
      → flat_map f (set ws i v) ≡ set (flat_map f ws) (i * k + j) b
  set-row [] i j v b p q e = absurd (omega arith)
  set-row (w ∷ ws) zero j v b p q e =
      ap (λ ms. ms ++ flat_map f ws) e ∙ sym (set-append_left (f w) (flat_map f ws) j b (omega (arith, long w)))
      ∙ same_set j (zero * k + j) (f w ++ flat_map f ws) b (sym (first j))
  set-row (w ∷ ws) (suc i) j v b p q e =
      ap (λ ms. f w ++ ms) (set-row ws i j v b (omega arith) q e) ∙ sym (set-append-add (f w) (flat_map f ws) (i * k + j) b)
      ∙ ap (λ n. set (f w ++ flat_map f ws) n b) (sym (later i j w))

  pub take-rows : (ws : List ℕ) (i : ℕ) → take (i * k) (flat_map f ws) ≡ flat_map f (take i ws)
  take-rows ws zero = same_take (zero * k) zero (flat_map f ws) none
  take-rows [] (suc i) = empty (suc i * k)
    where
      empty : (n : ℕ) → take {A = Bool} n [] ≡ []
      empty zero = refl
      empty (suc n) = refl
  take-rows (w ∷ ws) (suc i) =
      same_take (suc i * k) (length (f w) + i * k) (f w ++ flat_map f ws) (omega (arith, long w))
      ∙ take-append-add (f w) (flat_map f ws) (i * k) ∙ ap (λ ms. f w ++ ms) (take-rows ws i)

  -- below the mark j of the word i
  pub count-row : (ws : List ℕ) (i j : ℕ) → i < length ws → j ≤ k
      → count_below (i * k + j) (flat_map f ws) ≡ count_below (i * k) (flat_map f ws) + count_below j (f (get_or ws i 0))
  count-row [] i j p q = absurd (omega arith)
  count-row (w ∷ ws) zero j p q =
      ap (λ n. count_below n (f w ++ flat_map f ws)) (first j)
      ∙ ap marked_count (take-append-le j (f w) (flat_map f ws) (omega (arith, long w)))
      ∙ sym (ap (λ n. count_below n (f w ++ flat_map f ws) + count_below j (f w)) none ∙ zero-add (count_below j (f w)))
  count-row (w ∷ ws) (suc i) j p q =
      let all = ap (λ n. count_below n (f w ++ flat_map f ws)) (later i j w)
      ∙ ap marked_count (take-append-add (f w) (flat_map f ws) (i * k + j))
      ∙ marked_count-append (f w) (take (i * k + j) (flat_map f ws)) in
      let before = ap (λ n. count_below n (f w ++ flat_map f ws)) (start i w)
      ∙ ap marked_count (take-append-add (f w) (flat_map f ws) (i * k))
      ∙ marked_count-append (f w) (take (i * k) (flat_map f ws)) in
      omega (arith, all, before, count-row ws i j (omega arith) q)
    where
      start : (i w : ℕ) → suc i * k ≡ length (f w) + i * k
      start i w = omega (arith, long w)

  pub count-whole : (ws : List ℕ) (i : ℕ) → i < length ws
      → count_below ((i + 1) * k) (flat_map f ws) ≡ count_below (i * k) (flat_map f ws) + marked_count (f (get_or ws i 0))
  count-whole ws i p =
      ap (λ n. count_below n (flat_map f ws)) (next i) ∙ count-row ws i k p (omega arith)
      ∙ ap (λ ms. count_below (i * k) (flat_map f ws) + marked_count ms)
      (take_all k (f (get_or ws i 0)) (omega (arith, long (get_or ws i 0))))
    where
      next : (i : ℕ) → (i + 1) * k ≡ i * k + k
      next i = omega arith

  -- what is outside in the word i
  pub outside-row : (ws : List ℕ) (i j n left : ℕ) → i < length ws → left + i * k ≡ n + count_below (i * k) (flat_map f ws)
      → IsOutside left (f (get_or ws i 0)) j → IsOutside n (flat_map f ws) (i * k + j)
  outside-row ws i j n left p e o =
      let within : j < k = omega (arith, o.within, long (get_or ws i 0)) in record {
        within = omega (arith, length-rows ws, mul-step i (length ws) p);
        unmarked = at-row ws i j p within ∙ o.unmarked;
        before = omega (arith, count-row ws i j p (omega arith), o.before, e);
      }
    where
      mul-step : (i m : ℕ) → i < m → i * k + k ≤ m * k
      mul-step i m h = grind arith

-- ---- one mark more

-- the second list is the first with one more in it
abbrev pub HasOneMore : {A : Type 0} → A → List A → List A → Type 0
HasOneMore {A} x xs ys = (before : List A) × (after : List A) × (xs ≡ before ++ after) × (ys ≡ before ++ x ∷ after)

one_later : (n : ℕ) (m : Bool) (x y : ℕ) (xs ys : List ℕ) → x ≡ y → HasOneMore x xs ys
    → HasOneMore y (if m then n ∷ xs else xs) (if m then n ∷ ys else ys)
one_later n true x y xs ys e h = (n ∷ h.0, h.1, ap (λ zs. n ∷ zs) h.2, ap (λ zs. n ∷ zs) h.3 ∙ ap (λ z. n ∷ (h.0 ++ z ∷ h.1)) e)
one_later n false x y xs ys e h = (h.0, h.1, h.2, h.3 ∙ ap (λ z. h.0 ++ z ∷ h.1) e)

pub marked_from-set : (n : ℕ) (marks : List Bool) (i : ℕ) → i < length marks → is_marked marks i ≡ false
    → HasOneMore (n + i) (marked_from n marks) (marked_from n (set marks i true))
marked_from-set n [] i p h = absurd (omega arith)
marked_from-set n (true ∷ ms) zero p h = absurd (false≢true (sym h))
marked_from-set n (false ∷ ms) zero p h =
    ([], marked_from (n + 1) ms, refl, ap (λ x. x ∷ marked_from (n + 1) ms) (let e : n ≡ n + zero = omega arith in e))
marked_from-set n (m ∷ ms) (suc i) p h =
    one_later n m (n + 1 + i) (n + suc i) (marked_from (n + 1) ms) (marked_from (n + 1) (set ms i true)) (omega arith)
    (marked_from-set (n + 1) ms i (omega arith) h)

pub marked_from-unset : (n : ℕ) (marks : List Bool) (i : ℕ) → is_marked marks i ≡ true
    → HasOneMore (n + i) (marked_from n (set marks i false)) (marked_from n marks)
marked_from-unset n [] i h = absurd (false≢true h)
marked_from-unset n (false ∷ ms) zero h = absurd (false≢true h)
marked_from-unset n (true ∷ ms) zero h =
    ([], marked_from (n + 1) ms, refl, ap (λ x. x ∷ marked_from (n + 1) ms) (let e : n ≡ n + zero = omega arith in e))
marked_from-unset n (m ∷ ms) (suc i) h =
    one_later n m (n + 1 + i) (n + suc i) (marked_from (n + 1) (set ms i false)) (marked_from (n + 1) ms) (omega arith)
    (marked_from-unset (n + 1) ms i h)

-- none is marked where each mark is false
pub marked_count-none : (marks : List Bool) → ((i : ℕ) → is_marked marks i ≡ false) → marked_count marks ≡ 0
marked_count-none [] blank = refl
marked_count-none (true ∷ ms) blank = absurd (false≢true (sym (blank 0)))
marked_count-none (false ∷ ms) blank = marked_count-none ms (λ i. blank (suc i))

-- where none is marked, there is no position
pub marked_from-none : (n : ℕ) (marks : List Bool) → marked_count marks ≡ 0 → marked_from n marks ≡ []
marked_from-none n [] h = refl
marked_from-none n (true ∷ ms) h = absurd (omega arith)
marked_from-none n (false ∷ ms) h = marked_from-none (n + 1) ms h

pub length-marked_from : (n : ℕ) (marks : List Bool) → length (marked_from n marks) ≡ marked_count marks
length-marked_from n [] = refl
length-marked_from n (true ∷ ms) = ap suc (length-marked_from (n + 1) ms)
length-marked_from n (false ∷ ms) = length-marked_from (n + 1) ms
