-- The questions that have an answer: which they are, and how many.
use Rattle.std.proofs.Common.{◌≡◌, ℕ, suc, ◌+◌, ◌<◌, ◌≤◌, Bool, true, false, cond, ◌&&◌, ◌||◌, List, [], ◌∷◌, ◌++◌, length, map, filter}
use Rattle.std.proofs.Common.{Option, Some, None, unwrap_or, refl, sym, ap, ◌∙◌, subst, length-append, arith}
use Rattle.std.specs.{Cmp.IsEquivalence, Cmp.and_equiv, Cmp.on_equiv, List.IsDistinct, List.list_any, Map.keys_of, Map.lookup, Str.bytes_eq}
use Rattle.std.specs.Option.{is_some, option_map_or, IfSome}
use Rattle.std.proofs.lemmas.{Cmp.nat_list_eq_equiv, List.length-map, List.Folds.list_any-append, Map.lookup-none}
use Rattle.std.proofs.lemmas.Map.{Entries.none_past_head, Keys.IsDistinct-cons, Keys.IsDistinct-head, Keys.IsDistinct-tail}
use Rattle.std.proofs.lemmas.Map.{Made.is_member-filter, Made.is_some-lookup, Made.length-from_same_keys, Steps.list_any_congr}
use Rattle.std.proofs.Math.Bool.{or-false}
use Rattle.base_lists.proofs.{Each.all-filter, Any.none-passes, Any.each-fails}
use Rattle.cdi_memo.specs.Answers.{answer, how_many, is_kept, parts_under, questions, same_question, Answers, Keeps, Question, Removes}
use Rattle.cdi_memo.specs.Laws.{AreOnce, CountsAnswered, NamesHaveParts, PartsAreKept}

-- ---- lists with no two alike

pub differ-nil : {X : Type 0} (eq : X → X → Bool) → IsDistinct eq []
unfolding IsDistinct
differ-nil eq = tt

differ-filter : {X : Type 0} (eq : X → X → Bool) (test : X → Bool) (xs : List X) → IsDistinct eq xs → IsDistinct eq (filter test xs)
differ-filter eq test [] h = h
differ-filter eq test (x ∷ xs) h = by (test x) (differ-filter eq test xs (IsDistinct-tail eq x xs h))
  where
    by : (b : Bool) → IsDistinct eq (filter test xs) → IsDistinct eq (cond b (x ∷ filter test xs) (filter test xs))
    by true rest = IsDistinct-cons eq x (filter test xs) (all-filter (λ y. eq x y ≡ false) test xs (IsDistinct-head eq x xs h)) rest
    by false rest = rest

-- ---- one name

module _ {Q : Type 0} (eq : Q → Q → Bool) where
  pub same_equiv : IsEquivalence eq → IsEquivalence (same_question eq)
  same_equiv laws = and_equiv (on_equiv (λ (k : Question Q). k.0) nat_list_eq_equiv) (on_equiv (λ (k : Question Q). k.1) laws)

  row-has : {A : Type 0} (k : Question Q) (name : List ℕ) (ps : List (Q × A))
      → list_any (same_question eq k) (map (λ p. (name, p.0)) ps) ≡ (bytes_eq k.0 name && list_any (eq k.1) (keys_of ps))
  row-has k name [] = grind (arith, k.0)
  row-has k name (p ∷ ps) = grind (arith, row-has k name ps, k.0, k.1, p.0)

  row-differ : {A : Type 0} → (name : List ℕ) (ps : List (Q × A)) (rest : List (Question Q)) → IsDistinct eq (keys_of ps)
      → ((q : Q) → list_any (same_question eq (name, q)) rest ≡ false) → IsDistinct (same_question eq) rest
      → IsDistinct (same_question eq) (map (λ p. (name, p.0)) ps ++ rest)
  row-differ name [] rest own others d = d
  row-differ name (p ∷ ps) rest own others d =
      IsDistinct-cons (same_question eq) (name, p.0) (map (λ e. (name, e.0)) ps ++ rest)
      (each-fails (same_question eq (name, p.0)) (map (λ e. (name, e.0)) ps ++ rest)
      (list_any-append (same_question eq (name, p.0)) (map (λ e. (name, e.0)) ps) rest
      ∙ ap (λ b. list_any (same_question eq (name, p.0)) (map (λ e. (name, e.0)) ps) || b) (others p.0)
      ∙ or-false (list_any (same_question eq (name, p.0)) (map (λ e. (name, e.0)) ps))
      ∙ row-has (name, p.0) name ps
      ∙ ap (λ b. b && list_any (eq p.0) (keys_of ps)) (nat_list_eq_equiv.refl name)
      ∙ none-passes (eq p.0) (keys_of ps) (IsDistinct-head eq p.0 (keys_of ps) own)))
      (row-differ name ps rest (IsDistinct-tail eq p.0 (keys_of ps) own) others d)

-- ---- all names

module _ {Q A : Type 0} where
  no-more : (e : List ℕ × List (Q × A)) (m : Answers Q A) (n : List ℕ) → IsDistinct bytes_eq (keys_of (e ∷ m)) → bytes_eq n e.0 ≡ true
      → lookup (bytes_eq n) m ≡ None
  no-more e m n d is = lookup-none (bytes_eq n) m (none_past_head nat_list_eq_equiv n e m d is)

module _ {Q A : Type 0} (eq : Q → Q → Bool) where
  -- An answer is kept just of the parts that stand under its name.
  pub parts-kept : (m : Answers Q A) → PartsAreKept eq m
  parts-kept m n q = grind (arith, is_some-lookup)

  none-kept : (m : Answers Q A) (k : Question Q) → lookup (bytes_eq k.0) m ≡ None → is_kept eq m k ≡ false
  none-kept m k absent = ap (λ o. is_some (option_map_or (λ parts. lookup (eq k.1) parts) o None)) absent

  -- The questions that have an answer are those that are listed.
  pub questions-have : (m : Answers Q A) (k : Question Q) → IsDistinct bytes_eq (keys_of m)
      → list_any (same_question eq k) (questions m) ≡ is_kept eq m k
  questions-have [] k d = refl
  questions-have (e ∷ m) k d =
      list_any-append (same_question eq k) (map (λ p. (e.0, p.0)) e.1) (questions m)
      ∙ ap (λ b. b || list_any (same_question eq k) (questions m)) (row-has eq k e.0 e.1)
      ∙ ap (λ b. (bytes_eq k.0 e.0 && list_any (eq k.1) (keys_of e.1)) || b)
      (questions-have m k (IsDistinct-tail bytes_eq e.0 (keys_of m) d))
      ∙ by (bytes_eq k.0 e.0) (λ is. none-kept m k (no-more e m k.0 d is))
    where
      by : (b : Bool) → (b ≡ true → is_kept eq m k ≡ false) → ((b && list_any (eq k.1) (keys_of e.1)) || is_kept eq m k)
          ≡ is_some (option_map_or (λ parts. lookup (eq k.1) parts) (cond b (Some e.1) (lookup (bytes_eq k.0) m)) None)
      by true h = ap (λ b. list_any (eq k.1) (keys_of e.1) || b) (h refl) ∙ or-false (list_any (eq k.1) (keys_of e.1))
          ∙ sym (is_some-lookup (eq k.1) e.1)
      by false h = refl

  once-rest : (e : List ℕ × List (Q × A)) (m : Answers Q A) → AreOnce eq (e ∷ m) → AreOnce eq m
  once-rest e m once = (IsDistinct-tail bytes_eq e.0 (keys_of m) once.0, λ n. by n (bytes_eq n e.0) refl)
    where
      by : (n : List ℕ) (b : Bool) → bytes_eq n e.0 ≡ b → IsDistinct eq (parts_under m n)
      by n true is = subst (IsDistinct eq) (sym (ap (λ o. keys_of (unwrap_or o [])) (no-more e m n once.0 is))) (differ-nil eq)
      by n false is = subst (IsDistinct eq) (ap (λ b. keys_of (unwrap_or (cond b (Some e.1) (lookup (bytes_eq n) m)) [])) is) (once.1 n)

  -- No question is listed twice.
  pub questions-differ : (m : Answers Q A) → AreOnce eq m → IsDistinct (same_question eq) (questions m)
  questions-differ [] once = differ-nil (same_question eq)
  questions-differ (e ∷ m) once =
      row-differ eq e.0 e.1 (questions m)
      (subst (IsDistinct eq) (ap (λ b. keys_of (unwrap_or (cond b (Some e.1) (lookup (bytes_eq e.0) m)) [])) (nat_list_eq_equiv.refl e.0))
      (once.1 e.0))
      (λ q. questions-have m (e.0, q) (IsDistinct-tail bytes_eq e.0 (keys_of m) once.0)
      ∙ none-kept m (e.0, q) (no-more e m e.0 once.0 (nat_list_eq_equiv.refl e.0)))
      (questions-differ m (once-rest e m once))

-- ---- for callers

module _ {Q A : Type 0} where
  have-rest : (e : List ℕ × List (Q × A)) (m : Answers Q A) → IsDistinct bytes_eq (keys_of (e ∷ m)) → NamesHaveParts (e ∷ m)
      → NamesHaveParts m
  have-rest e m d have n = grind (arith, e.0, e.1, no-more)

  -- No more names stand than answers are kept.
  pub names-below : (m : Answers Q A) → IsDistinct bytes_eq (keys_of m) → NamesHaveParts m → length m ≤ how_many m
  names-below [] d have = omega arith
  names-below (e ∷ m) d have =
      let rest = names-below m (IsDistinct-tail bytes_eq e.0 (keys_of m) d) (have-rest e m d have) in
      let first : 0 < length e.1 =
      subst (λ b. IfSome (cond b (Some e.1) (lookup (bytes_eq e.0) m)) (λ parts. 0 < length parts)) (nat_list_eq_equiv.refl e.0)
      (have e.0) in
      let long = length-append (map (λ (p : Q × A). (e.0, p.0)) e.1) (questions m) in
      let row = length-map {B = Question Q} e.1 (λ p. (e.0, p.0)) in
      omega (arith, rest, first, long, row)

module _ {Q : Type 0} (eq : Q → Q → Bool) (laws : IsEquivalence eq) where
  -- the laws of questions
  alike : IsEquivalence (same_question eq)
  alike = same_equiv eq laws

module _ {Q A : Type 0} (eq : Q → Q → Bool) (laws : IsEquivalence eq) where
  -- Of two questions that are the same both have an answer or neither.
  pub kept-congr : (m : Answers Q A) (k l : Question Q) → IsDistinct bytes_eq (keys_of m) → same_question eq k l ≡ true
      → is_kept eq m k ≡ is_kept eq m l
  kept-congr m k l d same = sym (questions-have eq m k d) ∙ list_any_congr (alike eq laws) k l (questions m) same ∙ questions-have eq m l d

  -- Of questions that include all of which an answer is kept, and each-fails twice, as many have an answer as there are.
  pub counts-answered : (m : Answers Q A) → AreOnce eq m → CountsAnswered eq m
  counts-answered m once asked differ all =
      length-from_same_keys (alike eq laws) (questions m) (filter (is_kept eq m) asked) (questions-differ eq m once)
      (differ-filter (same_question eq) (is_kept eq m) asked differ)
      (λ k. questions-have eq m k once.0 ∙ by k (is_kept eq m k) (all k)
      ∙ sym (is_member-filter (alike eq laws) (is_kept eq m) k (λ l same. kept-congr m k l once.0 same) asked))
    where
      by : (k : Question Q) (b : Bool) → (b ≡ true → list_any (same_question eq k) asked ≡ true)
          → b ≡ (list_any (same_question eq k) asked && b)
      by k true has = sym (ap (λ a. a && true) (has refl))
      by k false has = absent (list_any (same_question eq k) asked)
        where
          absent : (a : Bool) → false ≡ (a && false)
          absent true = refl
          absent false = refl

  -- one question more has an answer
  one-more : (m n : Answers Q A) (k : Question Q) → AreOnce eq m → AreOnce eq n → is_kept eq m k ≡ false
      → ((l : Question Q) → is_kept eq n l ≡ (same_question eq k l || is_kept eq m l)) → how_many n ≡ how_many m + 1
  one-more m n k once once' new is =
      length-from_same_keys (alike eq laws) (questions n) (k ∷ questions m) (questions-differ eq n once')
      (IsDistinct-cons (same_question eq) k (questions m)
      (each-fails (same_question eq k) (questions m) (questions-have eq m k once.0 ∙ new))
      (questions-differ eq m once))
      (λ l. questions-have eq n l once'.0 ∙ is l
      ∙ (λ i. (alike eq laws).symm k l i || sym (questions-have eq m l once.0) i))
      ∙ one (length (questions m))
    where
      one : (n : ℕ) → suc n ≡ n + 1
      one n = omega arith

  -- the same questions have an answer
  as-many : (m n : Answers Q A) → AreOnce eq m → AreOnce eq n → ((l : Question Q) → is_kept eq n l ≡ is_kept eq m l)
      → how_many n ≡ how_many m
  as-many m n once once' is =
      length-from_same_keys (alike eq laws) (questions n) (questions m) (questions-differ eq n once') (questions-differ eq m once)
      (λ l. questions-have eq n l once'.0 ∙ is l ∙ sym (questions-have eq m l once.0))

  kept-or : (s : Bool) (a : A) (o : Option A) → is_some (cond s (Some a) o) ≡ (s || is_some o)
  kept-or s a o = grind arith

  -- A question more has an answer after one is kept that had each-fails.
  pub count-more : (name : List ℕ) (q : Q) (a : A) (m n : Answers Q A) → AreOnce eq m → AreOnce eq n → Keeps eq name q a m n
      → is_kept eq m (name, q) ≡ false → how_many n ≡ how_many m + 1
  count-more name q a m n once once' keeps new =
      one-more m n (name, q) once once' new (λ l. ap is_some (keeps l.0 l.1)
      ∙ kept-or (same_question eq (name, q) l) a (answer eq m l.0 l.1))

  -- As many have an answer after one is kept in the place of another.
  pub count-put : (name : List ℕ) (q : Q) (a : A) (m n : Answers Q A) → AreOnce eq m → AreOnce eq n → Keeps eq name q a m n
      → is_kept eq m (name, q) ≡ true → how_many n ≡ how_many m
  count-put name q a m n once once' keeps old =
      as-many m n once once'
      (λ l. ap is_some (keeps l.0 l.1) ∙ by l (same_question eq (name, q) l) (λ same. sym (kept-congr m (name, q) l once.0 same) ∙ old))
    where
      by : (l : Question Q) (s : Bool) → (s ≡ true → is_kept eq m l ≡ true)
          → is_some (cond s (Some a) (answer eq m l.0 l.1)) ≡ is_kept eq m l
      by l true h = sym (h refl)
      by l false h = refl

  -- A question less has an answer after one is removed.
  pub count-less : (name : List ℕ) (q : Q) (m n : Answers Q A) → AreOnce eq m → AreOnce eq n → Removes eq name q m n
      → is_kept eq m (name, q) ≡ true → how_many m ≡ how_many n + 1
  count-less name q m n once once' removes old =
      one-more n m (name, q) once' once
      (ap is_some (removes name q) ∙ ap (λ s. is_some (cond s None (answer eq m name q))) ((alike eq laws).refl (name, q)))
      (λ l. by l (same_question eq (name, q) l) (λ same. sym (kept-congr m (name, q) l once.0 same) ∙ old)
      ∙ ap (λ b. same_question eq (name, q) l || b) (sym (ap is_some (removes l.0 l.1))))
    where
      by : (l : Question Q) (s : Bool) → (s ≡ true → is_kept eq m l ≡ true)
          → is_kept eq m l ≡ (s || is_some (cond s None (answer eq m l.0 l.1)))
      by l true h = h refl
      by l false h = refl

  -- As many have an answer after one is removed that was not kept.
  pub count-stays : (name : List ℕ) (q : Q) (m n : Answers Q A) → AreOnce eq m → AreOnce eq n → Removes eq name q m n
      → is_kept eq m (name, q) ≡ false → how_many n ≡ how_many m
  count-stays name q m n once once' removes new =
      as-many m n once once'
      (λ l. ap is_some (removes l.0 l.1) ∙ by l (same_question eq (name, q) l) (λ same. sym (kept-congr m (name, q) l once.0 same) ∙ new))
    where
      by : (l : Question Q) (s : Bool) → (s ≡ true → is_kept eq m l ≡ false) → is_some (cond s None (answer eq m l.0 l.1)) ≡ is_kept eq m l
      by l true h = sym (h refl)
      by l false h = refl
