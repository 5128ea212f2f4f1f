use Rattle.std.proofs.Common.{length, ap, subst, arith}
use Rattle.cdi_memo.proofs.QuestionLemmas.{counts-answered, names-below}
use Rattle.cdi_memo.specs.{Answers.answers_in, Laws.CountsAnswered}
use Rattle.cdi_memo.proofs.memo.Memo.count.Goals as goal

pub returns-clause-answered : goal.returns-clause-answered
returns-clause-answered g c =
    subst (CountsAnswered g.Q.PartialEq.eq) c.self.view_is (counts-answered g.Q.PartialEq.eq g.met.Q.Eq.laws _ c.self.invariant.1)

pub returns-clause-names : goal.returns-clause-names
returns-clause-names g c =
    let below = names-below (answers_in c.self.inside.answers.entries) c.self.invariant.1.0 c.self.invariant.2 in
    let seen = ap length c.self.view_is in
    omega (arith, below, seen, c.self.invariant.0)
