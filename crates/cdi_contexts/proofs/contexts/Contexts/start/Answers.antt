use Rattle.std.proofs.Common.{refl, ap, sym, ◌+◌}
use Rattle.cdi_contexts.proofs.HomeLemmas.{homes-more}
use Rattle.cdi_contexts.proofs.Rising.{IsRising-more, IsOwnerOf_along}
use Rattle.cdi_contexts.specs.Storage.{Storage}
use Rattle.cdi_contexts.proofs.contexts.Contexts.start.Goals as goal

pub invariant_of-self-2 : goal.invariant_of-self-2
invariant_of-self-2 c =
    let next = ap (λ (s : Storage). s.standing.given + 1) c.self.view_is in
    let owned = IsOwnerOf_along _ _ _ (sym next) c.requires.owned in
    rw (c.in_ok-push.ensures.items, c.reserve.ensures.items) (
      IsRising-more _ _ _ c.self.invariant.0 refl owned,
      homes-more c.self.inside.homes c.settle.new.self c.self.inside.live.items _ c.self.invariant.1 c.in_ok-settle.ensures.ok,
    )
