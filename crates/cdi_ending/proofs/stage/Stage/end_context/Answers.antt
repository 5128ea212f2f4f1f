use Rattle.std.proofs.Common.{◌≡◌, true, false, Some, None, arith}
use Rattle.cdi_contexts.specs.Standing.{last_in}
use Rattle.cdi_legal.specs.Ends.{Ends}
use Rattle.cdi_ending.proofs.Costs.{last_counted, cost_from-le}
use Rattle.cdi_ending.specs.Room.{IsCounted}
use Rattle.cdi_ending.proofs.stage.Stage.end_context.Goals as goal

pub loop-youngest-preserved : goal.loop-youngest-preserved
loop-youngest-preserved g c =
    let last : last_in c.loop-youngest.run.moment.standing.live c.args.scope ≡ Some c.in-Some.youngest = grind arith in
    let counted : IsCounted c.args.self.now.scene c.in-Some.youngest c.loop-youngest.run.moment.standing.live =
    last_counted c.args.self.now.scene _ _ _ last in
    record {
      pays = λ low h. omega (arith, c.loop-youngest.invariant.pays low h, c.in_ok-destroy.ensures.pays counted low (omega arith));
      rest = λ m e. c.loop-youngest.invariant.rest m (Ends.context_left _ _ _ _ _ last c.in_ok-destroy.ensures.legal e);
    }

pub returns-in_err-destroy-clause-possible : goal.returns-in_err-destroy-clause-possible
returns-in_err-destroy-clause-possible g c = λ enough.
    let s = c.args.self.now.scene in
    let live = c.loop-youngest.run.moment.standing.live in
    let d = c.in-Some.youngest in
    let last : last_in live c.args.scope ≡ Some d = grind arith in
    let less = cost_from-le s 0 d.number live (omega arith) in
    let paid = c.loop-youngest.invariant.pays 0 (omega arith) in
    let impossible : false ≡ true = c.in_err-destroy.ensures.possible (last_counted s _ _ _ last) (omega (arith, enough, less, paid)) in
    cc

pub returns-clause-legal : goal.returns-clause-legal
returns-clause-legal g c =
    let last : last_in c.loop-youngest.run.moment.standing.live c.args.scope ≡ None = grind arith in
    c.loop-youngest.invariant.rest _ (Ends.context_empty _ _ last)
