-- What a change of the answers of one name does to all.
use Rattle.std.proofs.Common.{◌≡◌, ℕ, ◌<◌, Bool, true, false, cond, not, ◌&&◌, List, [], ◌∷◌, length, Option, Some, None, unwrap_or, refl}
use Rattle.std.proofs.Common.{sym, ap, ◌∙◌, subst, arith}
use Rattle.std.specs.{Cmp.Lexicographic.bytes_decides, List.IsDistinct, Map.keys_of, Map.lookup, Map.set_value, Str.bytes_eq}
use Rattle.std.specs.Option.{option_map, option_map_or, IfSome}
use Rattle.std.proofs.lemmas.{Bool.false≢true, Map.Made.keys_of-map_values, Map.Made.lookup-map_values}
use Rattle.indexmap.specs.IndexMap.{IndexMap}
use Rattle.cdi_memo.proofs.QuestionLemmas.{differ-nil}
use Rattle.cdi_memo.specs.Answers.{answer, answers_in, how_many, parts_under, Answers}
use Rattle.cdi_memo.specs.Laws.{AreOnce, NamesHaveParts}

pub turned : (b s : Bool) → s ≡ not b → b ≡ not s
turned b s is = grind arith

pub some-there : {X Y : Type 0} (test : X → Bool) (es : List (X × Y)) (y : Y) → lookup test es ≡ Some y → 0 < length es
some-there test [] y found = absurd (let no : None ≡ Some y = found in cc)
some-there test (e ∷ es) y found = omega arith

pub not-empty : {X : Type 0} (b : Bool) (xs : List X) → b ≡ false → (length xs ≡ 0 → b ≡ true) → 0 < length xs
not-empty b [] is empty = absurd (false≢true (sym is ∙ empty refl))
not-empty b (x ∷ xs) is empty = omega arith

-- the answers of the name stay
pub stays-there : {Q A S : Type 0} (name : List ℕ) (es : List (List ℕ × IndexMap Q A S)) (s w : IndexMap Q A S)
    → lookup (bytes_eq name) es ≡ Some s → w.entries ≡ s.entries → answers_in (set_value (bytes_eq name) es w) ≡ answers_in es
stays-there name [] s w found is = refl
stays-there {Q} {A} {S} name (e ∷ es) s w found is = by (bytes_eq name e.0) found (λ f. stays-there name es s w f is)
  where
    by : (b : Bool) → cond b (Some e.1) (lookup (bytes_eq name) es) ≡ Some s
        → (lookup (bytes_eq name) es ≡ Some s → answers_in (set_value (bytes_eq name) es w) ≡ answers_in es)
        → answers_in (cond b ((e.0, w) ∷ es) (e ∷ set_value (bytes_eq name) es w)) ≡ (e.0, e.1.entries) ∷ answers_in es
    by true f more =
        let same : e.1 ≡ s = cc in ap (λ xs. (e.0, xs) ∷ answers_in es) (is ∙ ap (λ (m : IndexMap Q A S). m.entries) (sym same))
    by false f more = ap (λ m. (e.0, e.1.entries) ∷ m) (more f)

-- the names that are seen
pub keys-seen : {Q A S : Type 0} (es : List (List ℕ × IndexMap Q A S)) (m : Answers Q A) → answers_in es ≡ m → keys_of es ≡ keys_of m
keys-seen {Q = Q} {A = A} {S = S} es m view = sym (keys_of-map_values (λ (x : IndexMap Q A S). x.entries) es) ∙ ap keys_of view

module _ {Q A S : Type 0} (eq : Q → Q → Bool) where
  -- what is seen of the map of a name
  abbrev pub answer_at : Option (IndexMap Q A S) → Q → Option A
  answer_at o q = option_map_or (λ parts. lookup (eq q) parts) (option_map (λ m. m.entries) o) None

  abbrev pub parts_at : Option (IndexMap Q A S) → List Q
  parts_at o = keys_of (unwrap_or (option_map (λ m. m.entries) o) [])

  pub answer-in : (es : List (List ℕ × IndexMap Q A S)) (n : List ℕ) (q : Q)
      → answer eq (answers_in es) n q ≡ answer_at (lookup (bytes_eq n) es) q
  answer-in es n q = ap (λ o. option_map_or (λ parts. lookup (eq q) parts) o None)
      (lookup-map_values (λ (m : IndexMap Q A S). m.entries) (bytes_eq n) es)

  pub parts-in : (es : List (List ℕ × IndexMap Q A S)) (n : List ℕ)
      → parts_under (answers_in es) n ≡ parts_at (lookup (bytes_eq n) es)
  parts-in es n = ap (λ o. keys_of (unwrap_or o [])) (lookup-map_values (λ (m : IndexMap Q A S). m.entries) (bytes_eq n) es)

  -- what is seen of all
  pub answer-seen : (es : List (List ℕ × IndexMap Q A S)) (m : Answers Q A) → answers_in es ≡ m → (n : List ℕ) (q : Q)
      → answer_at (lookup (bytes_eq n) es) q ≡ answer eq m n q
  answer-seen es m view n q = sym (answer-in es n q) ∙ ap (λ a. answer eq a n q) view

  pub parts-seen : (es : List (List ℕ × IndexMap Q A S)) (m : Answers Q A) → answers_in es ≡ m → (n : List ℕ)
      → parts_at (lookup (bytes_eq n) es) ≡ parts_under m n
  parts-seen es m view n = sym (parts-in es n) ∙ ap (λ a. parts_under a n) view

  -- nothing is kept
  pub empty-once : (es : List (List ℕ × IndexMap Q A S)) → es ≡ []
      → (0 ≡ how_many (answers_in es)) × AreOnce eq (answers_in es) × NamesHaveParts (answers_in es)
  empty-once es is = grind (arith, differ-nil)

  -- nothing is removed where the name has no answers
  pub absent : (es : List (List ℕ × IndexMap Q A S)) (name : List ℕ) (q : Q) → lookup (bytes_eq name) es ≡ None
      → (n : List ℕ) (r : Q) → answer eq (answers_in es) n r ≡ cond (bytes_eq name n && eq q r) None (answer eq (answers_in es) n r)
  absent es name q none n r = by (bytes_eq name n) refl
    where
      gone : (c : Bool) (o : Option A) → o ≡ None → o ≡ cond c None o
      gone true o e = e
      gone false o e = refl

      by : (b : Bool) → bytes_eq name n ≡ b
          → answer eq (answers_in es) n r ≡ cond (b && eq q r) None (answer eq (answers_in es) n r)
      by true e = gone (eq q r) (answer eq (answers_in es) n r)
          (answer-in es n r ∙ ap (λ v. answer_at (lookup (bytes_eq v) es) r) (sym ((bytes_decides name n).0 e))
          ∙ ap (λ o. answer_at o r) none)
      by false e = refl

  -- the map of the name is another, or is gone
  module _ (name : List ℕ) (es fs : List (List ℕ × IndexMap Q A S)) (t : Option (IndexMap Q A S))
      (put : (n : List ℕ) → lookup (bytes_eq n) fs ≡ cond (bytes_eq name n) t (lookup (bytes_eq n) es)) where
    pub changed : (q : Q) (o : Option A) → ((r : Q) → answer_at t r ≡ cond (eq q r) o (answer_at (lookup (bytes_eq name) es) r))
        → (n : List ℕ) (r : Q) → answer eq (answers_in fs) n r ≡ cond (bytes_eq name n && eq q r) o (answer eq (answers_in es) n r)
    changed q o own n r = answer-in fs n r ∙ ap (λ x. answer_at x r) (put n) ∙ by (bytes_eq name n) refl
        ∙ ap (λ a. cond (bytes_eq name n && eq q r) o a) (sym (answer-in es n r))
      where
        by : (b : Bool) → bytes_eq name n ≡ b
            → answer_at (cond b t (lookup (bytes_eq n) es)) r ≡ cond (b && eq q r) o (answer_at (lookup (bytes_eq n) es) r)
        by true e = own r ∙ ap (λ v. cond (eq q r) o (answer_at (lookup (bytes_eq v) es) r)) ((bytes_decides name n).0 e)
        by false e = refl

    pub once : IsDistinct bytes_eq (keys_of fs) → IsDistinct eq (parts_at t) → AreOnce eq (answers_in es) → AreOnce eq (answers_in fs)
    once outer own all = (
      subst (IsDistinct bytes_eq) (sym (keys_of-map_values (λ (m : IndexMap Q A S). m.entries) fs)) outer,
      λ n. subst (IsDistinct eq) (sym (parts-in fs n ∙ ap parts_at (put n))) (by n (bytes_eq name n)),
    )
      where
        by : (n : List ℕ) (b : Bool) → IsDistinct eq (parts_at (cond b t (lookup (bytes_eq n) es)))
        by n true = own
        by n false = subst (IsDistinct eq) (parts-in es n) (all.1 n)

    pub named : IfSome t (λ m. 0 < length m.entries) → NamesHaveParts (answers_in es) → NamesHaveParts (answers_in fs)
    named own all n =
        subst (λ o. IfSome o (λ parts. 0 < length parts))
        (sym (lookup-map_values (λ (m : IndexMap Q A S). m.entries) (bytes_eq n) fs ∙ ap (option_map (λ m. m.entries)) (put n)))
        (by (bytes_eq name n))
      where
        gone : (o : Option (IndexMap Q A S)) → IfSome o (λ m. 0 < length m.entries)
            → IfSome (option_map (λ m. m.entries) o) (λ parts. 0 < length parts)
        gone None h = h
        gone (Some m) h = h

        by : (b : Bool) → IfSome (option_map (λ m. m.entries) (cond b t (lookup (bytes_eq n) es))) (λ parts. 0 < length parts)
        by true = gone t own
        by false = subst (λ o. IfSome o (λ parts. 0 < length parts))
            (lookup-map_values (λ (m : IndexMap Q A S). m.entries) (bytes_eq n) es) (all n)
