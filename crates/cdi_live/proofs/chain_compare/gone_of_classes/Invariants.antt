use Rattle.cdi_live.proofs.Common.{◌≡◌, ◌&&◌, List, list_any, bytes_eq, BeanPlace, ℕ, parts_under, same_place, goes, is_gone_chain, take}
use Rattle.cdi_live.proofs.chain_compare.gone_of_classes.Given as goal

abbrev pub invariant-loop-class : goal.invariant-loop-class
invariant-loop-class l = (c : List ℕ) (p : BeanPlace) → is_gone_chain l.gone.items c p
    ≡ list_any (λ n. bytes_eq c n && list_any (λ q. same_place p q && goes l.sides.index.now.decls l.sides.next.now n q)
    (parts_under l.chains n)) (take l.class-index l.classes)
