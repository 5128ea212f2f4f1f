use Rattle.cdi_container.proofs.Common.{◌≡◌, Some, subst, ◌∙◌, slice_get}
use Rattle.cdi_effective.proofs.PlaceLemmas.{own-found}
use Rattle.cdi_container.proofs.beans.Beans.new.Goals as goal

pub invariant_of-result : goal.invariant_of-result
invariant_of-result c k d at =
    own-found c.args.live.now.decls k d c.decls.ensures.distinct
    (subst (λ ds. slice_get ds k ≡ Some d) (c.iter.ensures.value ∙ c.decls.ensures.value) at)
