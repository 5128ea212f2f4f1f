use Rattle.cdi_model.proofs.Common.{◌++◌, sym, subst, ◌∙◌, AreListed}
use Rattle.cdi_model.proofs.ListedLemmas.{listed-nil}
use Rattle.cdi_model.proofs.decls.Decls.new.Goals as goal

pub of-requires : goal.of-requires
of-requires c = subst AreListed (sym c.new.ensures) listed-nil

pub invariant_of-result : goal.invariant_of-result
invariant_of-result c = subst AreListed (sym (λ i. (c.of.ensures ∙ c.new.ensures) i ++ c.new-2.ensures i)) listed-nil
