use Rattle.cdi_container.proofs.Common.{Some, subst, sym, ap, ◌∙◌, false≢true, wanted, IsInOrder, Deployed, IsAsked, IsAskedSome, is_sound}
use Rattle.cdi_container.proofs.Common.{OnErr-from}
use Rattle.cdi_container.proofs.{KnownLemmas.in_order, Committing.deployed_on}
use Rattle.cdi_container.proofs.AskedLemmas.{asks_nothing_more, asks_some, asks_wanted}
use Rattle.cdi_container.proofs.KeepingLemmas.{knows_all, reported_right, still_evaluated, wired_knows, wires_right}
use Rattle.cdi_container.proofs.deployment.Deployment.wire.Goals as goal

pub returns-in-Some-clause-asked : goal.returns-in-Some-clause-asked
returns-in-Some-clause-asked g c =
    let book = g.B.Bodies.promises c.self.inside.book in
    let wired = is_sound c.self.inside.wiring in
    subst (λ (d : Deployed). IsAsked (wanted d.decls) d d) c.self.view_is
    (asks_nothing_more c.self.inside.live book wired c.work.ensures.wanted
    (wired_knows c.self.inside.live book c.self.inside.wiring _ c.in-Some.is c.self.invariant.wired))

pub invariant_of-self : goal.invariant_of-self
invariant_of-self g c =
    reported_right c.self.inside.live c.find_wiring.new.live
    (g.B.Bodies.promises c.self.inside.book) c.self.inside.wiring c.self.inside.unsettled
    c.find_wiring.new.unsettled c.self.inside.is_readied c.find_wiring.ensures.list
    (still_evaluated c.find_wiring.result c.self.inside.live c.find_wiring.new.live c.find_wiring.ensures.ok c.find_wiring.ensures.err)
    c.find_wiring.ensures.settled c.self.invariant

pub returns-in_err-wiring-clause-err : goal.returns-in_err-wiring-clause-err
returns-in_err-wiring-clause-err g c =
    let book = g.B.Bodies.promises c.self.inside.book in
    let wired = is_sound c.self.inside.wiring in
    OnErr-from c.from_residual.result
    (subst (λ (d : Deployed). IsAskedSome (wanted d.decls) d (deployed_on c.find_wiring.new.live book wired)) c.self.view_is
    (asks_some c.self.inside.live c.find_wiring.new.live book wired c.find_wiring.ensures.list
    c.find_wiring.ensures.counts c.work.ensures.wanted c.in_err-wiring.ensures.err))

pub invariant_of-self-2 : goal.invariant_of-self-2
invariant_of-self-2 g c =
    wires_right c.self.inside.live c.find_wiring.new.live
    (g.B.Bodies.promises c.self.inside.book) c.self.inside.wiring c.in_ok-wiring.wiring
    c.self.inside.unsettled c.find_wiring.new.unsettled c.self.inside.is_readied c.find_wiring.ensures.list c.in_ok-wiring.ensures.wiring
    (knows_all c.self.inside.live c.find_wiring.new.live c.find_wiring.ensures.list c.in_ok-wiring.ensures.ok) c.find_wiring.ensures.settled
    c.self.invariant

pub returns-clause-asked : goal.returns-clause-asked
returns-clause-asked g c =
    let book = g.B.Bodies.promises c.self.inside.book in
    let wired = is_sound c.self.inside.wiring in
    let after = is_sound (Some c.in_ok-wiring.wiring) in
    subst (λ (d : Deployed). IsAsked (wanted d.decls) d (deployed_on c.find_wiring.new.live book after)) c.self.view_is
    (asks_wanted c.self.inside.live c.find_wiring.new.live book wired after c.find_wiring.ensures.list
    c.find_wiring.ensures.counts c.work.ensures.wanted c.in_ok-wiring.ensures.ok
    (λ h. absurd (false≢true (sym (ap is_sound c.in_default.is) ∙ h))))

pub returns-in-Some-clause-order : goal.returns-in-Some-clause-order
returns-in-Some-clause-order g c =
    subst (λ (d : Deployed). IsInOrder d.decls d.known) c.self.view_is (in_order c.self.inside.live c.work.ensures.wanted)

pub returns-in_err-wiring-clause-order : goal.returns-in_err-wiring-clause-order
returns-in_err-wiring-clause-order g c =
    subst (λ (d : Deployed). IsInOrder d.decls d.known) c.self.view_is (in_order c.self.inside.live c.work.ensures.wanted)

pub returns-clause-order : goal.returns-clause-order
returns-clause-order g c =
    subst (λ (d : Deployed). IsInOrder d.decls d.known) c.self.view_is (in_order c.self.inside.live c.work.ensures.wanted)
