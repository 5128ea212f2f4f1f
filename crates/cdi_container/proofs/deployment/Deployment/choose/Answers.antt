use Rattle.cdi_container.proofs.Common.{subst, [], ◌∷◌, choice_key, Deployed, IsAsked, is_sound, on_ok_weaker}
use Rattle.cdi_container.proofs.{AskedLemmas.asks_one, Committing.deployed_on, KeepingLemmas.stays_right, KeepingLemmas.still_asked}
use Rattle.cdi_container.proofs.deployment.Deployment.choose.Goals as goal

pub invariant_of-self : goal.invariant_of-self
invariant_of-self g c =
    stays_right c.self.inside.live c.choose.new.self
    (g.B.Bodies.promises c.self.inside.book) c.self.inside.wiring c.self.inside.unsettled c.self.inside.is_readied
    c.choose.ensures.decls
    (still_asked c.choose.result c.self.inside.live c.choose.new.self
    (choice_key c.args.bean_type c.args.quals.now) c.choose.ensures.kept c.choose.ensures.err)
    c.self.invariant

pub returns-clause-asked : goal.returns-clause-asked
returns-clause-asked g c =
    let book = g.B.Bodies.promises c.self.inside.book in
    on_ok_weaker c.choose.result
    (λ kept. subst (λ (d : Deployed). IsAsked (choice_key c.args.bean_type c.args.quals.now ∷ []) d
    (deployed_on c.choose.new.self book (is_sound c.self.inside.wiring))) c.self.view_is
    (asks_one c.self.inside.live c.choose.new.self book (is_sound c.self.inside.wiring)
    (choice_key c.args.bean_type c.args.quals.now) c.choose.ensures.decls
    c.choose.ensures.counts c.choose.ensures.wanted kept)) c.choose.ensures.kept
