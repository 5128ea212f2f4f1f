use Rattle.cdi_live.proofs.Common.{◌≡◌, List, list_any, Qual, ℕ, ◌||◌, is_gone, drops_before, is_dropped_by, is_dropped_in}
use Rattle.cdi_live.proofs.event_dropped.push_dropped_by.Given as goal

abbrev pub invariant-loop-mention : goal.invariant-loop-mention
invariant-loop-mention l = (t : List ℕ) (us : List Qual)
    → (is_gone l.gone.items t us || list_any (is_dropped_in (drops_before l.wants) t us) l.mention-iterator)
    ≡ (is_gone l.fn.gone.items t us || is_dropped_by (drops_before l.wants) t us l.decl)
