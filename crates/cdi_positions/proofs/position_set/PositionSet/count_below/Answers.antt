use Rattle.cdi_positions.proofs.Common.{◌≡◌, ◌+◌, ◌-◌, ◌*◌, ◌%◌, ◌/◌, ◌^◌, ◌<◌, ℕ, List, length, get_or, ap, ap₂, subst, sym, ◌∙◌, take}
use Rattle.cdi_positions.proofs.Common.{arith, bit_and, count_ones, count_below, marked_count, marks_of}
use Rattle.cdi_positions.proofs.MarkLemmas.{count_below-le}
use Rattle.cdi_positions.proofs.SetLemmas.{count-mark, count-past}
use Rattle.cdi_positions.proofs.WordLemmas.{count_below-marks_in}
use Rattle.cdi_positions.proofs.position_set.PositionSet.count_below.Goals as goal

-- the whole words below a position, and what is below it in its own word
both : (words : List ℕ) (p whole : ℕ) → p / 64 < length words → whole ≡ marked_count (marks_of (take (p / 64) words))
    → whole + count_ones (bit_and (get_or words (p / 64) 0) (1 * 2 ^ (p % 64) % 2 ^ 64 - 1)) ≡ count_below p (marks_of words)
both words p whole within below =
    let low : p % 64 < 64 = omega arith in
    ap₂ (λ a b. a + b) below (count_below-marks_in (get_or words (p / 64) 0) (p % 64) low)
    ∙ count-mark words p within

pub returns-then-self-index : goal.returns-then-self-index
returns-then-self-index c =
    c.len.ensures
    ∙ subst (λ marks. marked_count marks ≡ count_below c.args.position marks) c.self.view_is
    (sym (count-past c.self.inside.words c.self.inside.used c.self.invariant c.args.position (omega arith)))

pub overflow_add-result : goal.overflow_add-result
overflow_add-result c =
    let within : c.args.position / 64 < length c.self.inside.words = omega (arith, c.self.invariant.sized, c.self.invariant.within) in
    omega (
      arith,
      both c.self.inside.words c.args.position c.count_in.result within c.count_in.ensures,
      count_below-le c.args.position (marks_of c.self.inside.words),
    )

pub returns : goal.returns
returns c =
    let within : c.args.position / 64 < length c.self.inside.words = omega (arith, c.self.invariant.sized, c.self.invariant.within) in
    both c.self.inside.words c.args.position c.count_in.result within c.count_in.ensures
    ∙ ap (count_below c.args.position) c.self.view_is
