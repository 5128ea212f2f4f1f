use Rattle.cdi_validate.proofs.Common.{◌≡◌, List, ℕ, BeanId, drop, fold, with_dependent}
use Rattle.cdi_validate.specs.Needed.{AreNumbered}
use Rattle.cdi_validate.proofs.circles.add_dependents.Given as goal

abbrev pub invariant-loop-bean : goal.invariant-loop-bean
invariant-loop-bean l = (entries : List (List ℕ × BeanId)) → AreNumbered entries l.fn.dependents
    → (some : List (List ℕ × BeanId)) × AreNumbered some l.dependents
    × (fold with_dependent some (drop l.bean-index l.beans) ≡ fold with_dependent entries l.beans)
