use Rattle.std.proofs.Common.{◌∙◌}
use Rattle.cdi_contexts.proofs.HomeLemmas.{living_numbered, living_nowhere}
use Rattle.cdi_contexts.proofs.contexts.Contexts.living_at.Goals as goal

pub returns-in_err-number : goal.returns-in_err-number
returns-in_err-number c =
    let inside = c.self.inside in
    let nowhere = living_nowhere inside.live.items c.args.home (c.in_err-number.ensures ∙ c.self.invariant.1 c.args.home) in
    c.from_residual.ensures ∙ rw (← c.self.view_is) nowhere

pub returns : goal.returns
returns c =
    let inside = c.self.inside in
    let there = c.in_ok-number.ensures ∙ c.self.invariant.1 c.args.home in
    let number = living_numbered inside.given inside.live.items c.args.home c.in_ok-number.number c.self.invariant.0 there in
    c.numbered.ensures ∙ rw (← c.self.view_is) number
