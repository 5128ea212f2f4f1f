use Rattle.cdi_ways.proofs.Common.{arith}
use Rattle.cdi_ways.proofs.LeavingLemmas.{leaving_within}
use Rattle.cdi_ways.proofs.search.Ways.count.Goals as goal

pub returns : goal.returns
returns c =
    let leaving = c.self.inside.leaving in
    rw (← c.self.view_is) (λ node p leaves.
    omega (arith, leaving_within leaving.items node p (c.self.invariant.whole node p leaves), c.len.ensures, leaving.ok.0))
