use Rattle.cdi_positions.proofs.Common.{◌%◌, ◌/◌, ◌^◌, eqb, false, ap, sym, ◌∙◌, arith, bit_and, get_or_past, is_marked, marks_of}
use Rattle.cdi_positions.proofs.SetLemmas.{length-marks_of, test-mark}
use Rattle.cdi_positions.proofs.position_set.PositionSet.contains.Goals as goal

pub returns-in-Some : goal.returns-in-Some
returns-in-Some c =
    let words = c.self.inside.words in
    let p = c.args.position in
    ap (λ word. eqb (bit_and (word / 2 ^ (p % 64)) 1) 1) (c.in-Some.ensures.lookup.3.1 0)
    ∙ test-mark words p c.in-Some.ensures.lookup.3.0 ∙ ap (λ marks. is_marked marks p) c.self.view_is

pub returns-in-None : goal.returns-in-None
returns-in-None c =
    let words = c.self.inside.words in
    let p = c.args.position in
    sym (get_or_past (marks_of words) p false (omega (arith, length-marks_of words, c.in-None.ensures.lookup.3)))
    ∙ ap (λ marks. is_marked marks p) c.self.view_is
