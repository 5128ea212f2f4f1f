use Rattle.cdi_live.proofs.Common.{◌≡◌, List, list_any, bytes_eq, ℕ, has, take}
use Rattle.cdi_live.proofs.moved.classes_of.Given as goal

abbrev pub invariant-loop-one : goal.invariant-loop-one
invariant-loop-one l = (class : List ℕ) → has l.classes.items class ≡ list_any (λ g. bytes_eq g.class class) (take l.one-index l.gone)
