use Rattle.cdi_container.proofs.Common.{List, subst, sym, Decl, ◌∙◌, AreKnown, placed_points}
use Rattle.cdi_container.proofs.PointLemmas.{are_known}
use Rattle.cdi_container.proofs.points.Points.iter.Goals as goal

pub invariant_of-result : goal.invariant_of-result
invariant_of-result c =
    subst (λ (ds : List Decl). AreKnown c.args.self.now.live.now (placed_points ds)) (sym (c.iter.ensures.value ∙ c.decls.ensures.value))
    (are_known c.args.self.now.live.now c.args.self.now.known)
