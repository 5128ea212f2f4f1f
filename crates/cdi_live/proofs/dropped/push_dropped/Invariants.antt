use Rattle.cdi_live.proofs.Common.{◌≡◌, List, list_any, Qual, ℕ, ◌||◌, is_gone, take, asks_before, is_dropped_at}
use Rattle.cdi_live.proofs.dropped.push_dropped.Given as goal

abbrev pub invariant-loop-key : goal.invariant-loop-key
invariant-loop-key l = (t : List ℕ) (us : List Qual) → is_gone l.gone.items t us
    ≡ (is_gone l.fn.gone.items t us || list_any (is_dropped_at (asks_before l.wants) t us) (take l.key-index l.keys))
