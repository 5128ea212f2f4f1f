use Rattle.cdi_container.proofs.Common.{subst, sym, [], ◌∷◌, ◌∙◌, choice_key, Deployed, IsAsked, is_sound}
use Rattle.cdi_container.proofs.AskedLemmas.{asks_known}
use Rattle.cdi_container.proofs.deployment.Deployment.kept_choice.Goals as goal

pub returns-clause-asked : goal.returns-clause-asked
returns-clause-asked g c =
    let key = choice_key c.args.bean_type.now c.args.quals.now in
    λ some. subst (λ (d : Deployed). IsAsked (key ∷ []) d d) c.self.view_is
    (asks_known c.self.inside.live (g.B.Bodies.promises c.self.inside.book) (is_sound c.self.inside.wiring) key c.kept_choice.ensures.wanted
    (sym c.kept_choice.ensures.known ∙ some))
