use Rattle.cdi_container.proofs.Common.{subst, [], ◌∷◌, EventKey, Deployed, IsAsked, is_sound, on_ok_weaker}
use Rattle.cdi_container.proofs.{AskedLemmas.asks_one, Committing.deployed_on, KeepingLemmas.stays_right, KeepingLemmas.still_asked}
use Rattle.cdi_container.proofs.deployment.Deployment.observers.Goals as goal

pub invariant_of-self : goal.invariant_of-self
invariant_of-self g c =
    stays_right c.self.inside.live c.observers.new.self
    (g.B.Bodies.promises c.self.inside.book) c.self.inside.wiring c.self.inside.unsettled c.self.inside.is_readied
    c.observers.ensures.decls
    (still_asked c.observers.result c.self.inside.live c.observers.new.self
    (EventKey c.args.event_type c.args.quals.now) c.observers.ensures.kept c.observers.ensures.err)
    c.self.invariant

pub returns-clause-asked : goal.returns-clause-asked
returns-clause-asked g c =
    let book = g.B.Bodies.promises c.self.inside.book in
    on_ok_weaker c.observers.result
    (λ kept. subst (λ (d : Deployed). IsAsked (EventKey c.args.event_type c.args.quals.now ∷ []) d
    (deployed_on c.observers.new.self book (is_sound c.self.inside.wiring))) c.self.view_is
    (asks_one c.self.inside.live c.observers.new.self book (is_sound c.self.inside.wiring)
    (EventKey c.args.event_type c.args.quals.now) c.observers.ensures.decls
    c.observers.ensures.counts c.observers.ensures.wanted kept)) c.observers.ensures.kept
