use Rattle.cdi_live.proofs.Common.{◌≡◌, List, list_any, bytes_eq, ℕ, has, take}
use Rattle.cdi_live.proofs.moved.types_of.Given as goal

abbrev pub invariant-loop-one : goal.invariant-loop-one
invariant-loop-one l = (t : List ℕ) → has l.types.items t ≡ list_any (λ g. bytes_eq g.bean_type t) (take l.one-index l.gone)
