use Rattle.std.proofs.Common.{Some, sym, ◌∙◌}
use Rattle.cdi_contexts.proofs.Places.{numbered_nowhere, numbered_there, place_along}
use Rattle.cdi_contexts.proofs.contexts.Contexts.numbered.Goals as goal

pub returns-in_err-place : goal.returns-in_err-place
returns-in_err-place c =
    let nowhere = numbered_nowhere c.args.number c.args.self.now.standing.live (c.in_err-place.ensures) in
    c.from_residual.ensures ∙ sym nowhere

pub returns : goal.returns
returns c =
    let inside = c.self.inside in
    let place = c.in_ok-place.place in
    let there = place_along _ _ c.args.number (Some place) c.self.view_is (c.in_ok-place.ensures) in
    rw (← c.self.view_is)
    (numbered_there inside.given c.args.number inside.live.items place c.index.result.now c.self.invariant.0 there c.index.ensures)
