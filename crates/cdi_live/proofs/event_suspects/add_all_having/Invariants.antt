use Rattle.cdi_live.proofs.Common.{◌≡◌, List, list_any, bytes_eq, ℕ, ◌||◌, keys_of, may_have, take, contains}
use Rattle.cdi_live.proofs.event_suspects.add_all_having.Given as goal

abbrev pub invariant-loop-name : goal.invariant-loop-name
invariant-loop-name l = (t : List ℕ) → contains bytes_eq l.types t
    ≡ (contains bytes_eq l.fn.types t || list_any (λ x. may_have l.index.decls (keys_of l.events) x t) (take l.name-index l.names))
