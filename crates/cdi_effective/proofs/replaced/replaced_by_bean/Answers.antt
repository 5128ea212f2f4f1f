use Rattle.cdi_effective.proofs.Common.{sym, ap, ◌∙◌, class_names, beans_in, IfOk-weaker}
use Rattle.cdi_effective.proofs.StepLemmas.{is-offered, none-offered, none-specialized}
use Rattle.cdi_effective.proofs.replaced.replaced_by_bean.Goals as goal

pub returns-then-not-bean : goal.returns-then-not-bean
returns-then-not-bean c = c.new.ensures.items ∙ sym (none-specialized c.args.decls.now c.args.bean.now c.if-not-bean.true)

pub returns-then-not-branch : goal.returns-then-not-branch
returns-then-not-branch c = c.new-then-not-branch.ensures.items
    ∙ sym (none-offered c.args.decls.now c.args.bean.now (sym c.in_ok-is_offered.ensures ∙ c.if-not-branch.true))

pub returns : goal.returns
returns c = IfOk-weaker c.class_names.result _ _ (λ names is. is
    ∙ ap (λ list. class_names (beans_in list)) c.deref.ensures.value ∙ ap class_names c.in_ok-behind.ensures
    ∙ is-offered c.args.decls.now c.args.bean.now (sym c.in_ok-is_offered.ensures ∙ c.if-not-branch.false)) c.class_names.ensures
