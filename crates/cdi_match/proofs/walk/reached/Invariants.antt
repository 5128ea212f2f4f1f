use Rattle.cdi_match.proofs.Common.{◌≡◌, ℕ, List, true, has, is_led_to, tasks}
use Rattle.cdi_match.proofs.WalkLemmas.{Tells}
use Rattle.cdi_match.proofs.walk.reached.Given as goal

abbrev pub invariant-taken : goal.invariant-taken
invariant-taken l =
    Tells l.links l.decls l.fn.starts (has l.found.items) l.walk
    × ((s : List ℕ) → has l.found.items s ≡ true → is_led_to l.links l.decls l.fn.starts s ≡ true)

abbrev pub decreases-taken : goal.decreases-taken
decreases-taken l = tasks l.walk
