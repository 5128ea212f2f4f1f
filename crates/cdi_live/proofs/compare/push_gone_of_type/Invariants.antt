use Rattle.cdi_live.proofs.Common.{◌≡◌, ◌&&◌, List, length, list_any, bytes_eq, Qual, ℕ, ◌||◌, parts_under, same_quals, sees_other, is_gone}
use Rattle.cdi_live.proofs.Common.{take, ◌-◌}
use Rattle.cdi_live.proofs.compare.push_gone_of_type.Given as goal

abbrev pub invariant-parts : goal.invariant-parts
invariant-parts l = (t : List ℕ) (us : List Qual) → is_gone l.gone.items t us ≡ (is_gone l.fn.gone.items t us
    || (bytes_eq t l.bean_type && list_any (λ q. same_quals us q && sees_other l.sides.index.now.decls l.sides.next.now l.bean_type q)
    (take l.index (parts_under l.choices l.bean_type))))

abbrev pub decreases-parts : goal.decreases-parts
decreases-parts l = length (parts_under l.choices l.bean_type) - l.index
