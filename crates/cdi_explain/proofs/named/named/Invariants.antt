use Rattle.std.proofs.Common.{◌≡◌, ◌++◌, drop, filter}
use Rattle.cdi_explain.specs.{Lent.lent_in, Names.has_name}
use Rattle.cdi_explain.proofs.named.named.Given as goal

abbrev pub invariant-loop-bean : goal.invariant-loop-bean
invariant-loop-bean l =
    lent_in l.named.items ++ filter (has_name l.name) (lent_in (drop l.bean-index l.beans))
    ≡ filter (has_name l.name) (lent_in l.beans)
