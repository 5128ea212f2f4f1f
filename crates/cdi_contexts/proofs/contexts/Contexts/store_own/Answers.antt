use Rattle.std.proofs.Common.{Some, refl}
use Rattle.cdi_contexts.proofs.HomeLemmas.{homes-stored}
use Rattle.cdi_contexts.proofs.Places.{keep_nowhere, keep_there, place_along}
use Rattle.cdi_contexts.proofs.Rising.{IsRising_along, IsRising-stored}
use Rattle.cdi_contexts.proofs.contexts.Contexts.store_own.Goals as goal

pub invariant_of-self : goal.invariant_of-self
invariant_of-self c =
    let inside = c.self.inside in
    let place = c.in-Some.place in
    let here = place_along _ _ c.args.number (Some place) c.self.view_is (c.in-Some.ensures) in
    let there = keep_there inside.given c.args.number c.args.value inside.live.items place c.index.result.now c.keeping.result in
    let changed = there c.self.invariant.0 here c.index.ensures c.keeping.ensures in (
      IsRising_along _ _ _ changed (IsRising-stored inside.given c.args.number c.args.value inside.live.items c.self.invariant.0),
      homes-stored inside.homes c.args.number c.args.value inside.live.items _ changed c.self.invariant.1,
    )

pub returns-in-Some-clause-standing : goal.returns-in-Some-clause-standing
returns-in-Some-clause-standing c =
    let inside = c.self.inside in
    let place = c.in-Some.place in
    let here = place_along _ _ c.args.number (Some place) c.self.view_is (c.in-Some.ensures) in
    let there = keep_there inside.given c.args.number c.args.value inside.live.items place c.index.result.now c.keeping.result in
    let changed = there c.self.invariant.0 here c.index.ensures c.keeping.ensures in
    rw (changed, ← c.self.view_is) refl

pub returns-in_default-clause-standing : goal.returns-in_default-clause-standing
returns-in_default-clause-standing c =
    rw (keep_nowhere c.args.number c.args.value c.args.self.now.standing.live (c.in_default.ensures)) refl
