use Rattle.cdi_container.proofs.Common.{subst, [], ◌∷◌, Deployed, IsAsked, ChainKey, is_sound, on_ok_weaker}
use Rattle.cdi_container.proofs.{AskedLemmas.asks_one, Committing.deployed_on, KeepingLemmas.stays_right, KeepingLemmas.still_asked}
use Rattle.cdi_container.proofs.deployment.Deployment.chain.Goals as goal

pub invariant_of-self : goal.invariant_of-self
invariant_of-self g c =
    stays_right c.self.inside.live c.chain.new.self
    (g.B.Bodies.promises c.self.inside.book) c.self.inside.wiring c.self.inside.unsettled c.self.inside.is_readied
    c.chain.ensures.decls
    (still_asked c.chain.result c.self.inside.live c.chain.new.self
    (ChainKey c.args.bean c.args.place.now) c.chain.ensures.kept c.chain.ensures.err)
    c.self.invariant

pub returns-clause-asked : goal.returns-clause-asked
returns-clause-asked g c =
    let book = g.B.Bodies.promises c.self.inside.book in
    on_ok_weaker c.chain.result
    (λ kept. subst (λ (d : Deployed). IsAsked (ChainKey c.args.bean c.args.place.now ∷ []) d
    (deployed_on c.chain.new.self book (is_sound c.self.inside.wiring))) c.self.view_is
    (asks_one c.self.inside.live c.chain.new.self book (is_sound c.self.inside.wiring)
    (ChainKey c.args.bean c.args.place.now) c.chain.ensures.decls
    c.chain.ensures.counts c.chain.ensures.wanted kept)) c.chain.ensures.kept
