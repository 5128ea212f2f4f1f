use Rattle.std.proofs.Common.{◌≡◌, subst, ap, ◌∙◌, IfOk, List}
use Rattle.cdi_model.specs.declared.quals.Qual.{Qual}
use Rattle.cdi_match.specs.Bindings.{uses_in}
use Rattle.cdi_intercept.specs.Sets.{set_by}
use Rattle.cdi_explain.specs.Interceptors.{verdicts_by}
use Rattle.cdi_explain.proofs.interceptors.verdicts_of.Goals as goal

pub returns : goal.returns
returns c =
    subst (λ (set : List Qual). IfOk c.verdicts.result (λ list. list ≡ verdicts_by c.args.decls.now set c.args.place.now))
    (ap uses_in c.deref.ensures.value ∙ c.in_ok-set.ensures
    ∙ ap (λ (class : List Qual). set_by c.args.decls.now class c.args.bean.now c.args.place.now)
    (c.as_slice.ensures ∙ c.in_ok-class_set.ensures)) c.verdicts.ensures
