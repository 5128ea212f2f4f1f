use Rattle.cdi_index.proofs.Common.{◌≡◌, ℕ, false, List, [], ◌∷◌, ◌++◌, Option, Some, None, refl, sym, ap, ◌∙◌, flat_map, Kept}
use Rattle.cdi_index.proofs.Common.{option_map_or, Word, under, ◌+◌, length, is_some, ◌<◌, arith, ◌≤◌, get_or, take, take_all}
use Rattle.std.proofs.Common.{IfSome}
use Rattle.std.proofs.lemmas.List.{append-nil, flat_map_more, take_more}
use Rattle.cdi_index.proofs.under.only_slot.Goals.{in-empty, in-len1}
use Rattle.cdi_index.proofs.under.only_slot.Goals as goal

none-listed : (f : ℕ → List Kept) (slots : List ℕ) → length slots < 1 → flat_map f slots ≡ []
none-listed f [] few = refl
none-listed f (s ∷ slots) few = absurd (omega arith)

one-listed : (f : ℕ → List Kept) (slots : List ℕ) → 1 ≤ length slots → length slots < 2 → flat_map f slots ≡ f (get_or slots 0 0)
one-listed f [] some few = absurd (omega arith)
one-listed f (s ∷ []) some few = append-nil (f s)
one-listed f (s ∷ t ∷ slots) some few = absurd (omega arith)

abbrev Only : Type 0
Only = Option (Word × ℕ)

abbrev found : (Word → ℕ → List Kept) → Only → List Kept
found f only = option_map_or (λ o. f o.0 o.1) only []

none-found : (f : Word → ℕ → List Kept) (only : Only) → is_some only ≡ false → found f only ≡ []
none-found f None none = refl
none-found f (Some o) none = absurd (cc)

pub loop-word-preserved : goal.loop-word-preserved
loop-word-preserved c = λ f.
    let each : Word → List Kept = λ v. flat_map (f v) (under c.args.postings.now v) in
    let w = c.word-item.result in
    let slots = c.under.result.now in
    let step : flat_map each (take (c.loop-word.word-index + 1) c.args.words.now) ≡ found f c.loop-word.only ++ flat_map (f w) slots =
    ap (flat_map each) (take_more c.args.words.now c.loop-word.word-index w c.loop-word-test.true)
    ∙ sym (flat_map_more each [] (take c.loop-word.word-index c.args.words.now) (get_or c.args.words.now c.loop-word.word-index w))
    ∙ ap (λ b. b ++ each (get_or c.args.words.now c.loop-word.word-index w)) (c.loop-word.invariant f)
    ∙ ap (λ v. found f c.loop-word.only ++ each v) (sym c.word-item.is)
    ∙ ap (λ ss. found f c.loop-word.only ++ flat_map (f w) ss) (sym c.under.ensures) in
    elim c.if-under-lt1.branch [
      | in-empty it ↦ step ∙ ap (λ b. found f c.loop-word.only ++ b) (none-listed (f w) slots it.in-empty.len_below)
          ∙ append-nil (found f c.loop-word.only) ∙ ap (found f) (sym it.only-is)
      | in-len1 it ↦ step
          ∙ ap (λ b. b ++ flat_map (f w) slots) (none-found f c.loop-word.only it.if-is_none.ensures)
          ∙ one-listed (f w) slots it.in-len1.len_at_least it.in-len1.len_below ∙ ap (found f) (sym it.only-is)
    ]

pub returns : goal.returns
returns c = by c.loop-word.only c.loop-word.invariant
  where
    each : (Word → ℕ → List Kept) → Word → List Kept
    each f v = flat_map (f v) (under c.args.postings.now v)

    whole : take c.loop-word.word-index c.args.words.now ≡ c.args.words.now
    whole = take_all c.loop-word.word-index c.args.words.now c.loop-word-test.false

    by : (only : Only)
        → ((f : Word → ℕ → List Kept) → flat_map (each f) (take c.loop-word.word-index c.args.words.now) ≡ found f only)
        → IfSome only (λ o. (f : Word → ℕ → List Kept) → flat_map (each f) c.args.words.now ≡ f o.0 o.1)
    by None are = tt
    by (Some o) are = λ f. ap (flat_map (each f)) (sym whole) ∙ are f
