use Rattle.cdi_container.proofs.Common.{subst, wanted, IsInOrder, Deployed, IsAsked, IsAskedSome, is_sound, OnErr-from}
use Rattle.cdi_container.proofs.{KnownLemmas.in_order, AskedLemmas.asks_some, AskedLemmas.asks_wanted, Committing.deployed_on}
use Rattle.cdi_container.proofs.{Committing.same-counts, KeepingLemmas.stays_right, KeepingLemmas.still_evaluated}
use Rattle.cdi_container.proofs.deployment.Deployment.evaluate_all.Goals as goal

pub invariant_of-self : goal.invariant_of-self
invariant_of-self g c =
    stays_right c.self.inside.live c.evaluate.new.view
    (g.B.Bodies.promises c.self.inside.book) c.self.inside.wiring c.self.inside.unsettled c.self.inside.is_readied
    c.evaluate.ensures.list
    (still_evaluated c.evaluate.result c.self.inside.live c.evaluate.new.view c.evaluate.ensures.ok c.evaluate.ensures.err)
    c.self.invariant

pub returns-in_err-evaluate-clause-err : goal.returns-in_err-evaluate-clause-err
returns-in_err-evaluate-clause-err g c =
    let book = g.B.Bodies.promises c.self.inside.book in
    let wired = is_sound c.self.inside.wiring in
    OnErr-from c.from_residual.result
    (subst (λ (d : Deployed). IsAskedSome (wanted d.decls) d (deployed_on c.evaluate.new.view book wired)) c.self.view_is
    (asks_some c.self.inside.live c.evaluate.new.view book wired c.evaluate.ensures.list
    (same-counts c.self.inside.live c.evaluate.new.view c.evaluate.ensures.counts) c.work.ensures.wanted c.in_err-evaluate.ensures.err))

pub returns-in_err-evaluate-clause-order : goal.returns-in_err-evaluate-clause-order
returns-in_err-evaluate-clause-order g c =
    subst (λ (d : Deployed). IsInOrder d.decls d.known) c.self.view_is (in_order c.self.inside.live c.work.ensures.wanted)

pub invariant_of-self-2 : goal.invariant_of-self-2
invariant_of-self-2 g c =
    stays_right c.self.inside.live c.evaluate.new.view
    (g.B.Bodies.promises c.self.inside.book) c.self.inside.wiring c.self.inside.unsettled c.self.inside.is_readied
    c.evaluate.ensures.list
    (still_evaluated c.evaluate.result c.self.inside.live c.evaluate.new.view c.evaluate.ensures.ok c.evaluate.ensures.err)
    c.self.invariant

pub returns-clause-order : goal.returns-clause-order
returns-clause-order g c =
    subst (λ (d : Deployed). IsInOrder d.decls d.known) c.self.view_is (in_order c.self.inside.live c.work.ensures.wanted)

pub returns-clause-asked : goal.returns-clause-asked
returns-clause-asked g c =
    let book = g.B.Bodies.promises c.self.inside.book in
    let wired = is_sound c.self.inside.wiring in
    subst (λ (d : Deployed). IsAsked (wanted d.decls) d (deployed_on c.evaluate.new.view book wired)) c.self.view_is
    (asks_wanted c.self.inside.live c.evaluate.new.view book wired wired c.evaluate.ensures.list
    (same-counts c.self.inside.live c.evaluate.new.view c.evaluate.ensures.counts) c.work.ensures.wanted c.in_ok-evaluate.ensures.ok
    (λ h. h))
