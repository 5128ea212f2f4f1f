use Rattle.cdi_model.proofs.Common.{length, subst, sym, ap, ◌∙◌, changed_by, keys_in, AreListed, AreMarked}
use Rattle.cdi_model.proofs.kept.Kept.copy.Goals as goal

pub invariant_of-result : goal.invariant_of-result
invariant_of-result c = record {
  listed = subst AreListed (sym c.in_ok-base.ensures) c.self.invariant.listed;
  gone_size = ap length c.copy-2.ensures ∙ c.self.invariant.gone_size;
  changed_size = ap length c.copy-3.ensures ∙ c.self.invariant.changed_size;
  marked = c.in_ok-replaced.ensures.marked c.copy-3.result
      (subst (λ marks. AreMarked marks c.self.inside.replaced.items) (sym c.copy-3.ensures) c.self.invariant.marked);
  alike =
      ap keys_in (c.in_ok-replaced.ensures.ok c.in_ok-base.base
      ∙ ap (changed_by c.self.inside.replaced.items) c.in_ok-base.ensures) ∙ c.self.invariant.alike ∙ ap keys_in (sym c.in_ok-base.ensures);
}
