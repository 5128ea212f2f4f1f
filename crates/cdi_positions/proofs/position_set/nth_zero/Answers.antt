use Rattle.cdi_positions.proofs.Common.{◌≡◌, ◌+◌, ◌<◌, true, false, Bool, ℕ, ap, sym, ◌∙◌, refl, arith, take_all, count_below, is_marked}
use Rattle.cdi_positions.proofs.Common.{marked_count, IsOutside, marks_in}
use Rattle.cdi_positions.proofs.MarkLemmas.{count_below_more, count_below_same}
use Rattle.cdi_positions.proofs.WordLemmas.{length-marks_in, set-bit, unset-bit}
use Rattle.cdi_positions.proofs.position_set.nth_zero.Goals.{then-word-bit-eq0+else-left-eq0, else-word-bit-eq0}
use Rattle.cdi_positions.proofs.position_set.nth_zero.Goals as goal

pub returns-then-left-eq0 : goal.returns-then-left-eq0
returns-then-left-eq0 c = record {
  within = omega (arith, length-marks_in c.args.word);
  unmarked = unset-bit c.args.word c.loop-bit.bit (omega arith) c.if-word-bit-eq0.true;
  before = omega arith;
}

pub loop-bit-preserved : goal.loop-bit-preserved
loop-bit-preserved c = elim c.if-word-bit-eq0.branch [
  | then-word-bit-eq0+else-left-eq0 w ↦
      omega (
        arith,
        count_below_same c.loop-bit.bit (marks_in c.args.word)
            (unset-bit c.args.word c.loop-bit.bit (omega arith) w.if-word-bit-eq0.true),
      )
  | else-word-bit-eq0 w ↦
      omega (
        arith,
        count_below_more c.loop-bit.bit (marks_in c.args.word)
            (set-bit c.args.word c.loop-bit.bit (omega arith) w.if-word-bit-eq0.false),
      )
]

whole : (word : ℕ) → count_below (63 + 1) (marks_in word) ≡ marked_count (marks_in word)
whole word = ap marked_count (take_all 64 (marks_in word) (omega (arith, length-marks_in word)))

last : (word n left : ℕ) → n + marked_count (marks_in word) < 64 → left + 63 ≡ n + count_below 63 (marks_in word)
    → (b : Bool) → is_marked (marks_in word) 63 ≡ b → IsOutside n (marks_in word) 63
last word n left room e true is =
    absurd (omega (arith, count_below_more 63 (marks_in word) is, whole word))
last word n left room e false is = record {
  within = omega (arith, length-marks_in word);
  unmarked = is;
  before = omega (arith, count_below_same 63 (marks_in word) is, whole word);
}

pub returns : goal.returns
returns c =
    let bit : c.loop-bit.bit ≡ 63 = omega arith in
    last c.args.word c.args.n c.loop-bit.left c.requires
    (ap (λ b. c.loop-bit.left + b) (sym bit) ∙ c.loop-bit.invariant ∙ ap (λ b. c.args.n + count_below b (marks_in c.args.word)) bit)
    (is_marked (marks_in c.args.word) 63) refl
