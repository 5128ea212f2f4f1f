use Rattle.cdi_uses.proofs.Common.{◌≡◌, map, drop, list_any, repeats_member}
use Rattle.cdi_uses.proofs.uses.repeats_some_member.Given as goal

abbrev pub invariant-loop-text : goal.invariant-loop-text
invariant-loop-text l = list_any repeats_member (map (λ u. u.now) (drop l.text-index l.uses))
    ≡ list_any repeats_member (map (λ u. u.now) l.uses)
