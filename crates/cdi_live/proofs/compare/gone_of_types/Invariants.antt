use Rattle.cdi_live.proofs.Common.{◌≡◌, ◌&&◌, List, list_any, bytes_eq, Qual, ℕ, parts_under, same_quals, sees_other, is_gone, take}
use Rattle.cdi_live.proofs.compare.gone_of_types.Given as goal

abbrev pub invariant-loop-bean_type : goal.invariant-loop-bean_type
invariant-loop-bean_type l = (t : List ℕ) (us : List Qual) → is_gone l.gone.items t us
    ≡ list_any (λ n. bytes_eq t n && list_any (λ q. same_quals us q && sees_other l.sides.index.now.decls l.sides.next.now n q)
    (parts_under l.choices n)) (take l.bean_type-index l.types)
