use Rattle.std.proofs.Common.{◌≡◌, drop, fold, map}
use Rattle.cdi_resolve.specs.Choices.{alternatives, candidate}
use Rattle.cdi_explain.specs.{Lent.lent_in, Verdicts.raise, Verdicts.top}
use Rattle.cdi_explain.proofs.rivals.top_of.Given as goal

abbrev pub invariant-loop-bean : goal.invariant-loop-bean
invariant-loop-bean l =
    fold (λ p c. raise p c.priority) l.top (alternatives (map candidate (lent_in (drop l.bean-index l.beans))))
    ≡ top (alternatives (map candidate (lent_in l.beans)))
