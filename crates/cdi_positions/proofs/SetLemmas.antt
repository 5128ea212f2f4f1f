-- The marks of a set by its words.
use Rattle.cdi_positions.proofs.Common.{◌≡◌, ◌≢◌, ℕ, ◌+◌, ◌-◌, ◌*◌, ◌/◌, ◌%◌, ◌^◌, ◌<◌, ◌≤◌, Bool, true, false, not, eqb, List, [], ◌∷◌}
use Rattle.cdi_positions.proofs.Common.{◌++◌, length, take, set, get_or, replicate, sym, ap, ap₂, ◌∙◌, arith, count_ones, bit_and, bit_or}
use Rattle.cdi_positions.proofs.Common.{count_trailing_zeros, get_or-set_other, get_or_past, length-set, length-take, count_below}
use Rattle.cdi_positions.proofs.Common.{is_marked, marked_count, marked_from, IsOutside, marks_in, marks_of, positions_left, BeginsAt}
use Rattle.cdi_positions.proofs.Common.{EndsAt}
use Rattle.std.proofs.lemmas.List.{get_or-drop, get_or-replicate, drop_more, length-replicate, take-append-drop}
use Rattle.std.proofs.{Common.drop, lemmas.Grind.flat_map-append, lemmas.Nat.Bits.bit_at-zero, Math.Decide.dec_le}
use Rattle.cdi_positions.proofs.MarkLemmas.{at-row, count-row, count-whole, count_below-past, marked_count-append, marked_count-le}
use Rattle.cdi_positions.proofs.MarkLemmas.{marked_count-none, marked_from-none, length-rows, set-row, take-rows}
use Rattle.cdi_positions.proofs.WordLemmas.{at-marks_in, clear-marks_in, count-marks_in, lowest-bit, first-marks_in, length-marks_in}
use Rattle.cdi_positions.proofs.WordLemmas.{none-marks_in, set-marks_in, test-bit, test-fresh}

pub length-marks_of : (ws : List ℕ) → length (marks_of ws) ≡ length ws * 64
length-marks_of ws = length-rows marks_in 64 length-marks_in ws

-- where a position stands
place : (p : ℕ) → p ≡ p / 64 * 64 + p % 64
place p = omega arith

module _ (ws : List ℕ) (p : ℕ) (within : p / 64 < length ws) where
  low : p % 64 < 64
  low = omega arith

  pub at-mark : is_marked (marks_of ws) p ≡ is_marked (marks_in (get_or ws (p / 64) 0)) (p % 64)
  at-mark = ap (is_marked (marks_of ws)) (place p) ∙ at-row marks_in 64 length-marks_in ws (p / 64) (p % 64) within low

  pub test-mark : eqb (bit_and (get_or ws (p / 64) 0 / 2 ^ (p % 64)) 1) 1 ≡ is_marked (marks_of ws) p
  test-mark = test-bit (get_or ws (p / 64) 0) (p % 64) low ∙ sym at-mark

  pub fresh-mark : eqb (bit_and (get_or ws (p / 64) 0) (1 * 2 ^ (p % 64) % 2 ^ 64)) 0 ≡ not (is_marked (marks_of ws) p)
  fresh-mark = test-fresh (get_or ws (p / 64) 0) (p % 64) low ∙ ap not (sym at-mark)

  pub set-mark : marks_of (set ws (p / 64) (bit_or (get_or ws (p / 64) 0) (1 * 2 ^ (p % 64) % 2 ^ 64))) ≡ set (marks_of ws) p true
  set-mark =
      set-row marks_in 64 length-marks_in ws (p / 64) (p % 64) (bit_or (get_or ws (p / 64) 0) (1 * 2 ^ (p % 64) % 2 ^ 64)) true within low
      (set-marks_in (get_or ws (p / 64) 0) (p % 64) low)
      ∙ ap (λ n. set (marks_of ws) n true) (sym (place p))

  pub count-mark : marked_count (marks_of (take (p / 64) ws)) + count_below (p % 64) (marks_in (get_or ws (p / 64) 0))
      ≡ count_below p (marks_of ws)
  count-mark =
      let rest : p % 64 ≤ 64 = omega arith in
      ap (λ ms. marked_count ms + count_below (p % 64) (marks_in (get_or ws (p / 64) 0)))
      (sym (take-rows marks_in 64 length-marks_in ws (p / 64)))
      ∙ sym (count-row marks_in 64 length-marks_in ws (p / 64) (p % 64) within rest)
      ∙ ap (λ n. count_below n (marks_of ws)) (sym (place p))

-- in a word that is zero none is marked
pub unmarked-zero : (ws : List ℕ) (p : ℕ) → get_or ws (p / 64) 0 ≡ 0 → is_marked (marks_of ws) p ≡ false
unmarked-zero ws p blank = elim (dec_le (length ws) (p / 64)) [
  | yes past ↦ get_or_past (marks_of ws) p false (omega (arith, past, length-marks_of ws))
  | no gt ↦
      at-mark ws p (omega arith) ∙ ap (λ w. is_marked (marks_in w) (p % 64)) blank
      ∙ at-marks_in 0 (p % 64) (omega arith) ∙ ap (λ d. eqb d 1) (bit_at-zero (p % 64))
]

-- ---- the words in use

pub EndsAt-none : EndsAt 0 (replicate 32 0)
EndsAt-none = record { sized = length-replicate {A = ℕ} 32 0; within = omega arith; after = λ i p. at i (dec_le 32 i) }
  where
    at : (i : ℕ) → Dec (32 ≤ i) → get_or {A = ℕ} (replicate 32 0) i 0 ≡ 0
    at i (yes past) = get_or_past (replicate 32 0) i 0 past
    at i (no gt) = get_or-replicate 32 i 0 0 (omega (arith, gt))

-- another word at an index before the new end
pub EndsAt-set : (ws : List ℕ) (used index v most : ℕ) → EndsAt used ws → used ≤ most → index < most → most ≤ 32
    → EndsAt most (set ws index v)
EndsAt-set ws used index v most ends le before room = record {
  sized = length-set ws index v ∙ ends.sized;
  within = room;
  after = λ i p. (
      let other : i ≢ index = omega (arith, p, before) in
      get_or-set_other ws index i v 0 other ∙ ends.after i (omega (arith, p, le)));
}

module _ (ws : List ℕ) (used : ℕ) (ends : EndsAt used ws) where
  pub unmarked-past : (p : ℕ) → used * 64 ≤ p → is_marked (marks_of ws) p ≡ false
  unmarked-past p past = unmarked-zero ws p (ends.after (p / 64) (omega arith))

  -- none is marked from there on
  pub none-after : (i : ℕ) → used ≤ i → marked_count (marks_of (drop i ws)) ≡ 0
  none-after i p =
      marked_count-none (marks_of (drop i ws))
      (λ q. unmarked-zero (drop i ws) q (get_or-drop i ws (q / 64) 0 ∙ ends.after (i + q / 64) (omega (arith, p))))

  -- the words in use have all
  pub count-used : marked_count (marks_of (take used ws)) ≡ marked_count (marks_of ws)
  count-used =
      let both = ap (λ ws. marked_count (marks_of ws)) (sym (take-append-drop used ws))
      ∙ ap marked_count (flat_map-append marks_in (take used ws) (drop used ws))
      ∙ marked_count-append (marks_of (take used ws)) (marks_of (drop used ws)) in
      omega (arith, both, none-after used (omega arith))

  -- no more are below a position past them
  pub count-past : (p : ℕ) → used * 64 ≤ p → count_below p (marks_of ws) ≡ marked_count (marks_of ws)
  count-past p past =
      count_below-past (used * 64) p (marks_of ws) past (ap marked_count (take-rows marks_in 64 length-marks_in ws used) ∙ count-used)

  -- so many past them
  pub outside-past : (n left : ℕ) → left + used * 64 ≡ n + marked_count (marks_of ws) → used * 64 + left < 2048
      → IsOutside n (marks_of ws) (used * 64 + left)
  outside-past n left e p = record {
    within = omega (arith, length-marks_of ws, ends.sized);
    unmarked = unmarked-past (used * 64 + left) (omega arith);
    before = omega (arith, count-past (used * 64 + left) (omega arith));
  }

  pub none-left : (i w : ℕ) → w ≡ 0 → used ≤ i + 1 → positions_left ws i w ≡ []
  none-left i w e p =
      ap (positions_left ws i) e ∙ none-marks_in (i * 64) (marks_of (drop (i + 1) ws))
      ∙ marked_from-none (i * 64 + 64) (marks_of (drop (i + 1) ws)) (none-after (i + 1) p)

-- ---- the positions that are left

same_marked : (m n : ℕ) (marks : List Bool) → m ≡ n → marked_from m marks ≡ marked_from n marks
same_marked m n marks e = ap (λ k. marked_from k marks) e

pub left-next : (ws : List ℕ) (i w : ℕ) → w ≡ 0 → i + 1 < length ws
    → positions_left ws (i + 1) (get_or ws (i + 1) 0) ≡ positions_left ws i w
left-next ws i w e p =
    sym (
    ap (positions_left ws i) e ∙ none-marks_in (i * 64) (marks_of (drop (i + 1) ws))
    ∙ ap (λ rest. marked_from (i * 64 + 64) (marks_of rest)) (drop_more ws (i + 1) 0 p)
    ∙ same_marked (i * 64 + 64) ((i + 1) * 64) (marks_in (get_or ws (i + 1) 0) ++ marks_of (drop (i + 1 + 1) ws)) (omega arith)
    )

pub left-first : (ws : List ℕ) (i w : ℕ) → 0 < w → w < 2 ^ 64
    → positions_left ws i w ≡ (i * 64 + count_trailing_zeros 64 w) ∷ positions_left ws i (bit_and w (w - 1))
left-first ws i w p q = first-marks_in (marks_of (drop (i + 1) ws)) w (i * 64) p q

-- ---- how many are marked

-- one word more
pub count-more : (ws : List ℕ) (i : ℕ) → i < length ws → get_or ws i 0 < 2 ^ 64
    → marked_count (marks_of (take (i + 1) ws)) ≡ marked_count (marks_of (take i ws)) + count_ones (get_or ws i 0)
count-more ws i p q =
    let next : (i + 1) * 64 ≡ i * 64 + 64 = omega arith in
    ap marked_count (sym (take-rows marks_in 64 length-marks_in ws (i + 1)))
    ∙ count-whole marks_in 64 length-marks_in ws i p
    ∙ ap₂ (λ a b. a + b) (ap marked_count (take-rows marks_in 64 length-marks_in ws i)) (sym (count-marks_in (get_or ws i 0) q))

-- no more than there are bits
pub count-room : (ws : List ℕ) (i : ℕ) → i < length ws → marked_count (marks_of (take (i + 1) ws)) ≤ length ws * 64
count-room ws i p = omega (arith, marked_count-le (marks_of (take (i + 1) ws)), length-marks_of (take (i + 1) ws), length-take (i + 1) ws)

-- ---- the positions that wait

-- each word is zero up to the last
pub zeros-all : (ws : List ℕ) (first used : ℕ) → BeginsAt first ws → EndsAt used ws → get_or ws first 0 ≡ 0 → used ≤ first + 1
    → (i : ℕ) → get_or ws i 0 ≡ 0
zeros-all ws first used begins ends blank last i = at (dec_le used i) (dec_le first i)
  where
    at : Dec (used ≤ i) → Dec (first ≤ i) → get_or ws i 0 ≡ 0
    at (yes past) d = ends.after i past
    at (no gt) (yes le) = ap (λ k. get_or ws k 0) (let e : i ≡ first = omega (arith, gt, le, last) in e) ∙ blank
    at (no gt) (no before) = begins.before i (omega (arith, before))

pub BeginsAt-first : (ws : List ℕ) → length ws ≡ 32 → BeginsAt 0 ws
BeginsAt-first ws sized = record { sized = sized; within = omega arith; before = λ i p. absurd (omega (arith, p)) }

-- another word at an index that is not before
pub BeginsAt-set : (ws : List ℕ) (first index v least : ℕ) → BeginsAt first ws → least ≤ first → least ≤ index
    → BeginsAt least (set ws index v)
BeginsAt-set ws first index v least begins le before = record {
  sized = length-set ws index v ∙ begins.sized;
  within = omega (arith, begins.within);
  before = λ i p. (
      let other : i ≢ index = omega arith in
      get_or-set_other ws index i v 0 other ∙ begins.before i (omega arith));
}

module _ (ws : List ℕ) (i : ℕ) (within : i < length ws) (some : 0 < get_or ws i 0) (fits : get_or ws i 0 < 2 ^ 64) where
  pub lowest-marked : is_marked (marks_of ws) (i * 64 + count_trailing_zeros 64 (get_or ws i 0)) ≡ true
  lowest-marked =
      let is = lowest-bit (get_or ws i 0) some fits in
      at-row marks_in 64 length-marks_in ws i (count_trailing_zeros 64 (get_or ws i 0)) within is.0 ∙ is.1

  pub lowest-taken : marks_of (set ws i (bit_and (get_or ws i 0) (get_or ws i 0 - 1)))
      ≡ set (marks_of ws) (i * 64 + count_trailing_zeros 64 (get_or ws i 0)) false
  lowest-taken =
      set-row marks_in 64 length-marks_in ws i (count_trailing_zeros 64 (get_or ws i 0)) (bit_and (get_or ws i 0) (get_or ws i 0 - 1)) false
      within (lowest-bit (get_or ws i 0) some fits).0 (clear-marks_in (get_or ws i 0) some fits)
