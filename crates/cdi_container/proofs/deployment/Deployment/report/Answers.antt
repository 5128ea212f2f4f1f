use Rattle.cdi_container.proofs.Common.{refl, subst, wanted, IsInOrder, Deployed, IsAsked, IsAskedSome, is_sound, on_ok_weaker}
use Rattle.std.proofs.lemmas.Result.{on_err_weaker}
use Rattle.cdi_container.proofs.{KnownLemmas.in_order, AskedLemmas.asks_some, AskedLemmas.asks_wanted, Committing.deployed_on}
use Rattle.cdi_container.proofs.{Committing.same-counts, KeepingLemmas.reported_right, KeepingLemmas.still_evaluated}
use Rattle.cdi_container.proofs.deployment.Deployment.report.Goals as goal

pub report-requires-clause-keeps : goal.report-requires-clause-keeps
report-requires-clause-keeps g c = refl

pub report-requires-clause-settled : goal.report-requires-clause-settled
report-requires-clause-settled g c = c.self.invariant.settled

pub invariant_of-self : goal.invariant_of-self
invariant_of-self g c =
    reported_right c.self.inside.live c.report.new.view
    (g.B.Bodies.promises c.self.inside.book) c.self.inside.wiring c.self.inside.unsettled
    c.report.new.self c.self.inside.is_readied c.report.ensures.list
    (still_evaluated c.report.result c.self.inside.live c.report.new.view c.report.ensures.ok c.report.ensures.err) c.report.ensures.settled
    c.self.invariant

pub returns-clause-asked : goal.returns-clause-asked
returns-clause-asked g c =
    let book = g.B.Bodies.promises c.self.inside.book in
    let wired = is_sound c.self.inside.wiring in
    on_ok_weaker c.report.result
    (λ kept. subst (λ (d : Deployed). IsAsked (wanted d.decls) d (deployed_on c.report.new.view book wired)) c.self.view_is
    (asks_wanted c.self.inside.live c.report.new.view book wired wired c.report.ensures.list
    (same-counts c.self.inside.live c.report.new.view c.report.ensures.counts) c.work.ensures.wanted kept (λ h. h))) c.report.ensures.ok

pub returns-clause-err : goal.returns-clause-err
returns-clause-err g c =
    let book = g.B.Bodies.promises c.self.inside.book in
    let wired = is_sound c.self.inside.wiring in
    on_err_weaker c.report.result
    (λ some. subst (λ (d : Deployed). IsAskedSome (wanted d.decls) d (deployed_on c.report.new.view book wired)) c.self.view_is
    (asks_some c.self.inside.live c.report.new.view book wired c.report.ensures.list
    (same-counts c.self.inside.live c.report.new.view c.report.ensures.counts) c.work.ensures.wanted some)) c.report.ensures.err

pub returns-clause-order : goal.returns-clause-order
returns-clause-order g c =
    subst (λ (d : Deployed). IsInOrder d.decls d.known) c.self.view_is (in_order c.self.inside.live c.work.ensures.wanted)
