use Rattle.cdi_uses.proofs.Common.{◌≡◌, ◌≤◌, ◌+◌, length, option_map, space, uses_in, pieces, left_of}
use Rattle.cdi_uses.proofs.events.count_uses.Given as goal

abbrev pub invariant-loop-rest : goal.invariant-loop-rest
invariant-loop-rest l =
    record {
      counted : l.count + length (pieces space (option_map (λ u. u.now) l.rest)) ≡ length (uses_in l.text);
      small : l.count + left_of (option_map (λ u. u.now) l.rest) ≤ length l.text;
    }

abbrev pub decreases-loop-rest : goal.decreases-loop-rest
decreases-loop-rest l = left_of (option_map (λ u. u.now) l.rest)
