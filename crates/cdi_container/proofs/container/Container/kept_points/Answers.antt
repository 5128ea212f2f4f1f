use Rattle.cdi_container.proofs.Common.{◌≡◌, subst, sym, ap, ◌∙◌, wanted, State, points_told}
use Rattle.cdi_container.proofs.container.Container.kept_points.Goals as goal

pub points-requires : goal.points-requires
points-requires g c = subst (λ (s : State). s.known ≡ wanted s.decls) (sym c.self.view_is) c.requires

pub returns : goal.returns
returns g c = c.points.ensures ∙ ap (λ (s : State). points_told s.decls) c.self.view_is
