use Rattle.cdi_container.proofs.Common.{subst, sym, [], ◌∷◌, ◌∙◌, EventKey, Deployed, IsAsked, is_sound}
use Rattle.cdi_container.proofs.AskedLemmas.{asks_known}
use Rattle.cdi_container.proofs.deployment.Deployment.kept_observers.Goals as goal

pub returns-clause-asked : goal.returns-clause-asked
returns-clause-asked g c =
    let key = EventKey c.args.event_type.now c.args.quals.now in
    λ some. subst (λ (d : Deployed). IsAsked (key ∷ []) d d) c.self.view_is
    (asks_known c.self.inside.live (g.B.Bodies.promises c.self.inside.book)
    (is_sound c.self.inside.wiring) key c.kept_observers.ensures.wanted
    (sym c.kept_observers.ensures.known ∙ some))
