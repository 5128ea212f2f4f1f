use Rattle.cdi_model.proofs.Common.{◌≡◌, ◌+◌, ◌-◌, position, arith, ap, sym, ◌∙◌, count_below, is_of}
use Rattle.cdi_model.proofs.KeptLemmas.{count-le}
use Rattle.cdi_model.proofs.StandingLemmas.{rank, unplaced}
use Rattle.cdi_model.proofs.kept.Kept.position.Goals as goal

pub returns-in_default : goal.returns-in_default
returns-in_default c =
    sym (unplaced c.self.inside.base c.self.inside.gone c.self.inside.changed c.self.inside.replaced.items c.self.invariant
    c.args.kind c.args.name.now (sym c.in_default.ensures))
    ∙ ap (position (is_of c.args.kind c.args.name.now)) c.self.view_is

pub overflow_sub-result : goal.overflow_sub-result
overflow_sub-result c = let low = count-le c.self.inside.gone c.in-Some.place in omega (arith, low, c.count_below.ensures)

pub returns : goal.returns
returns c =
    let low = count-le c.self.inside.gone c.in-Some.place in
    let all : count_below c.in-Some.place c.self.inside.gone + (c.in-Some.place - c.count_below.result) ≡ c.in-Some.place =
    omega (arith, low, c.count_below.ensures) in
    sym (rank c.self.inside.base c.self.inside.gone c.self.inside.changed c.self.inside.replaced.items c.self.invariant
    c.args.kind c.args.name.now c.in-Some.place (c.in-Some.place - c.count_below.result) (sym c.in-Some.ensures) all)
    ∙ ap (position (is_of c.args.kind c.args.name.now)) c.self.view_is
