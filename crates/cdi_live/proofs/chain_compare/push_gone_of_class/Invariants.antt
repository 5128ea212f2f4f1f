use Rattle.cdi_live.proofs.Common.{◌≡◌, ◌&&◌, List, length, list_any, bytes_eq, BeanPlace, ℕ, ◌||◌, parts_under, same_place, goes}
use Rattle.cdi_live.proofs.Common.{is_gone_chain, take, ◌-◌}
use Rattle.cdi_live.proofs.chain_compare.push_gone_of_class.Given as goal

abbrev pub invariant-parts : goal.invariant-parts
invariant-parts l = (c : List ℕ) (p : BeanPlace) → is_gone_chain l.gone.items c p ≡ (is_gone_chain l.fn.gone.items c p
    || (bytes_eq c l.class && list_any (λ q. same_place p q && goes l.sides.index.now.decls l.sides.next.now l.class q)
    (take l.index (parts_under l.chains l.class))))

abbrev pub decreases-parts : goal.decreases-parts
decreases-parts l = length (parts_under l.chains l.class) - l.index
