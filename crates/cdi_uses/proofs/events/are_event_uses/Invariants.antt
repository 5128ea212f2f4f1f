use Rattle.cdi_uses.proofs.Common.{◌≡◌, option_map, list_all, space, is_event_use, pieces, left_of}
use Rattle.cdi_uses.proofs.events.are_event_uses.Given as goal

abbrev pub invariant-loop-rest : goal.invariant-loop-rest
invariant-loop-rest l = list_all is_event_use (pieces space (option_map (λ u. u.now) l.rest))
    ≡ list_all is_event_use (pieces space (option_map (λ u. u.now) l.uses))

abbrev pub decreases-loop-rest : goal.decreases-loop-rest
decreases-loop-rest l = left_of (option_map (λ u. u.now) l.rest)
