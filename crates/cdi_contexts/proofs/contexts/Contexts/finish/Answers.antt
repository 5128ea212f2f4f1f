use Rattle.std.proofs.Common.{Some, refl}
use Rattle.cdi_contexts.proofs.HomeLemmas.{homes-finished}
use Rattle.cdi_contexts.proofs.Places.{finish_nowhere, finish_there, place_along}
use Rattle.cdi_contexts.proofs.Rising.{IsRising_along, IsRising-finished}
use Rattle.cdi_contexts.proofs.contexts.Contexts.finish.Goals as goal

pub invariant_of-self : goal.invariant_of-self
invariant_of-self c =
    let inside = c.self.inside in
    let place = c.in-Some.place in
    let here = place_along _ _ c.args.number (Some place) c.self.view_is (c.in-Some.ensures) in
    let there = finish_there inside.given c.args.number c.args.product inside.live.items place c.index.result.now c.finished.result in
    let changed = there c.self.invariant.0 here c.index.ensures c.finished.ensures in (
      IsRising_along _ _ _ changed (IsRising-finished inside.given c.args.number c.args.product inside.live.items c.self.invariant.0),
      homes-finished inside.homes c.args.number c.args.product inside.live.items _ changed c.self.invariant.1,
    )

pub returns-in-Some-clause-standing : goal.returns-in-Some-clause-standing
returns-in-Some-clause-standing c =
    let inside = c.self.inside in
    let place = c.in-Some.place in
    let here = place_along _ _ c.args.number (Some place) c.self.view_is (c.in-Some.ensures) in
    let there = finish_there inside.given c.args.number c.args.product inside.live.items place c.index.result.now c.finished.result in
    let changed = there c.self.invariant.0 here c.index.ensures c.finished.ensures in
    rw (changed, ← c.self.view_is) refl

pub returns-in_default-clause-standing : goal.returns-in_default-clause-standing
returns-in_default-clause-standing c =
    rw (finish_nowhere c.args.number c.args.product c.args.self.now.standing.live (c.in_default.ensures)) refl
