use Rattle.std.proofs.Common.{Some, refl, ap, drop, ◌∙◌}
use Rattle.std.proofs.lemmas.List.{take_rest}
use Rattle.cdi_contexts.proofs.HomeLemmas.{homes-removed}
use Rattle.cdi_contexts.proofs.Places.{without_nowhere, without_there, place_along}
use Rattle.cdi_contexts.proofs.Rising.{IsRising_along, IsRising-without}
use Rattle.cdi_contexts.specs.Homes.{lives_at, oldest_at, left_of, kept_at}
use Rattle.cdi_contexts.proofs.contexts.Contexts.take_out.Goals as goal

pub invariant_of-self : goal.invariant_of-self
invariant_of-self c =
    let inside = c.self.inside in
    let place = c.in-Some.place in
    let live = inside.live.items in
    let gone = c.remove-gone.result in
    let here = place_along _ _ c.args.number (Some place) c.self.view_is (c.in-Some.ensures) in
    let changed = without_there inside.given c.args.number live place gone c.self.invariant.0 here in
    let behind = take_rest c.deref.result.now place ∙ ap (drop place) (c.deref.ensures.value ∙ c.remove-gone.ensures.items) in
    rw c.remove-gone.ensures.items (
      IsRising_along _ _ _ changed (IsRising-without inside.given c.args.number live c.self.invariant.0),
      homes-removed inside.homes c.leave.new.self inside.given c.args.number live place gone c.self.invariant.0 c.self.invariant.1 here
          c.remove-gone.ensures.value
          (λ h. c.leave.ensures h
          ∙ ap (λ young. left_of (kept_at inside.homes h) (lives_at h gone) gone.id.number (oldest_at h young)) behind),
    )

pub returns-in-Some-clause-live : goal.returns-in-Some-clause-live
returns-in-Some-clause-live c =
    let inside = c.self.inside in
    let place = c.in-Some.place in
    let here = place_along _ _ c.args.number (Some place) c.self.view_is (c.in-Some.ensures) in
    let changed = without_there inside.given c.args.number inside.live.items place c.remove-gone.result c.self.invariant.0 here in
    rw (c.remove-gone.ensures.items, changed, ← c.self.view_is) refl

pub returns-in_default-clause-live : goal.returns-in_default-clause-live
returns-in_default-clause-live c =
    rw (without_nowhere c.args.number c.args.self.now.standing.live (c.in_default.ensures)) refl
