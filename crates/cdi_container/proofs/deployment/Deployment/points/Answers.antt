use Rattle.cdi_container.proofs.Common.{◌≡◌, subst, sym, ap, ◌∙◌, wanted, Deployed, points_told}
use Rattle.cdi_container.proofs.KnownLemmas.{knows-listed}
use Rattle.cdi_container.proofs.deployment.Deployment.points.Goals as goal

pub new-requires : goal.new-requires
new-requires g c =
    knows-listed c.self.inside.live (subst (λ (d : Deployed). d.known ≡ wanted d.decls) (sym c.self.view_is) c.requires)

pub returns : goal.returns
returns g c = c.new.ensures ∙ ap (λ (d : Deployed). points_told d.decls) c.self.view_is
