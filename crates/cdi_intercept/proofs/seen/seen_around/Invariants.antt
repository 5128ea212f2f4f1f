use Rattle.std.proofs.Common.{◌≡◌, ◌++◌, drop, filter}
use Rattle.cdi_match.specs.Bindings.{uses_in}
use Rattle.cdi_intercept.specs.{Lent.lent_in, Sees.is_seen}
use Rattle.cdi_intercept.proofs.seen.seen_around.Given as goal

abbrev pub invariant-loop-interceptor : goal.invariant-loop-interceptor
invariant-loop-interceptor l =
    lent_in l.list.items ++ filter (is_seen (uses_in l.bindings) l.place) (lent_in (drop l.interceptor-index l.order))
    ≡ filter (is_seen (uses_in l.bindings) l.place) (lent_in l.order)
