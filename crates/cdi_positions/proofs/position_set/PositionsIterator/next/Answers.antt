use Rattle.cdi_positions.proofs.Common.{sym, ◌∙◌, arith}
use Rattle.std.proofs.Common.{rules}
use Rattle.cdi_positions.proofs.SetLemmas.{left-first, left-next, none-left}
use Rattle.cdi_positions.proofs.position_set.PositionsIterator.next.Goals as goal

pub returns-then-self-clause-steps : goal.returns-then-self-clause-steps
returns-then-self-clause-steps c =
    let none = none-left c.filled.self-inside.words.now c.filled.self-inside.end c.filled.invariant.ends
    c.filled.self-inside.index c.filled.self-inside.word c.filled-test.true (omega arith) in
    (sym c.self.view_is ∙ sym c.filled.invariant.same ∙ none, none)

pub filled-preserved : goal.filled-preserved
filled-preserved c = record {
  same =
      left-next c.filled.self-inside.words.now c.filled.self-inside.index c.filled.self-inside.word c.filled-test.true
      (omega (arith, c.filled.invariant.ends.sized, c.filled.invariant.ends.within))
      ∙ c.filled.invariant.same;
  ends = c.filled.invariant.ends;
  within = omega (arith, c.filled.invariant.ends.within);
}

pub returns-clause-steps : goal.returns-clause-steps
returns-clause-steps c =
    sym c.self.view_is ∙ sym c.filled.invariant.same
    ∙ left-first c.filled.self-inside.words.now c.filled.self-inside.index c.filled.self-inside.word (omega arith) (omega arith)

pub returns-clause-goes : goal.returns-clause-goes
returns-clause-goes c =
    rw (
    sym c.self.view_is ∙ sym c.filled.invariant.same
    ∙ left-first c.filled.self-inside.words.now c.filled.self-inside.index c.filled.self-inside.word (omega arith) (omega arith)
    ) (search rules)
