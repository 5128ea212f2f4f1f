use Rattle.cdi_model.proofs.Common.{length, arith, ap, ◌∙◌, count_below}
use Rattle.cdi_model.proofs.StandingLemmas.{count-kept}
use Rattle.cdi_model.proofs.kept.Kept.len.Goals as goal

pub overflow_sub-result : goal.overflow_sub-result
overflow_sub-result c =
    let all = count-kept c.self.inside.base c.self.inside.gone c.self.inside.changed c.self.inside.replaced.items c.self.invariant in
    let gone = c.count_below.ensures ∙ ap (λ n. count_below n c.self.inside.gone) c.len-places.ensures in
    omega (arith, all, gone, c.len-places.ensures)

pub returns : goal.returns
returns c =
    let all = count-kept c.self.inside.base c.self.inside.gone c.self.inside.changed c.self.inside.replaced.items c.self.invariant in
    let gone = c.count_below.ensures ∙ ap (λ n. count_below n c.self.inside.gone) c.len-places.ensures in
    let view = ap length c.self.view_is in
    omega (arith, all, gone, c.len-places.ensures, view)
