use Rattle.cdi_effective.proofs.Common.{◌≡◌, ℕ, List, limit, has, chain_behind, behind, ◌++◌, byte_order, contains, ◌-◌, beans_in}
use Rattle.cdi_effective.proofs.chain.behind.Given as goal

abbrev pub invariant-loop-step : goal.invariant-loop-step
invariant-loop-step l = (names : List (List ℕ)) × ((s : List ℕ) → contains byte_order l.met s ≡ has names s)
    × (beans_in l.list.items ++ chain_behind (limit - l.step) l.decls names l.last ≡ behind l.decls l.bean)
