-- Several calls in a row on a reader or a writer.
use borrow.Author.Tests.{ne_eqb}
use Rattle.std.proofs.Common.{◌≡◌, ℕ, List, ◌++◌, take, drop, Option, Some, None, ap, sym, ◌∙◌, append_assoc}
use Rattle.std.specs.Prelude.{Bool, ◌||◌, ◌==◌}
use Rattle.std.proofs.{lemmas.List.take-append-drop, Math.Bool.or-false}
use Rattle.std.specs.Io.KnownBytes.{Appends, Consumes}

-- writes in a row append in a row
pub Appends-more : (a b c : Option (List ℕ)) (xs ys : List ℕ) → Appends a b xs → Appends b c ys → Appends a c (xs ++ ys)
Appends-more None b c xs ys h k = tt
Appends-more (Some a) None c xs ys h k = absurd h
Appends-more (Some a) (Some b) None xs ys h k = absurd k
Appends-more (Some a) (Some b) (Some c) xs ys h k = k ∙ ap (λ l. l ++ ys) h ∙ append_assoc a xs ys

-- reads in a row consume in a row
pub Consumes-more : (a b c : Option (List ℕ)) (xs ys : List ℕ) → Consumes a b xs → Consumes b c ys → Consumes a c (xs ++ ys)
Consumes-more None b c xs ys h k = tt
Consumes-more (Some a) None c xs ys h k = absurd h
Consumes-more (Some a) (Some b) None xs ys h k = absurd k
Consumes-more (Some a) (Some b) (Some c) xs ys h k = h ∙ ap (λ l. xs ++ l) k ∙ sym (append_assoc xs ys c)

-- what was written, and n bytes more
pub written_more : (a b c : Option (List ℕ)) (bytes rest written : List ℕ) (n : ℕ) → bytes ≡ written ++ rest → Appends a b written
    → Appends b c (take n rest)
    → (more : List ℕ) × (bytes ≡ more ++ drop n rest) × Appends a c more
written_more a b c bytes rest written n whole before now = (
  written ++ take n rest,
  whole ∙ ap (λ l. written ++ l) (sym (take-append-drop n rest)) ∙ sym (append_assoc written (take n rest) (drop n rest)),
  Appends-more a b c written (take n rest) before now,
)

-- a write that took a byte notes no failure
pub still_same : (a b : Bool) (n : ℕ) → a ≡ (b || (n == 0)) → (n ≡ 0 → ⊥) → a ≡ b
still_same a b n h some = h ∙ ap (λ t. b || t) (ne_eqb n 0 some) ∙ or-false b
