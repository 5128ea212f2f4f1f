use Rattle.std.proofs.Common.{◌≡◌, subst, ap, ◌∙◌, IfOk, List}
use Rattle.cdi_explain.proofs.VerdictLemmas.{judged}
use Rattle.cdi_explain.specs.{Lent.lent_in, declared.verdict.Verdict.Verdict}
use Rattle.cdi_explain.proofs.choice.verdicts_on_choice.Goals as goal

pub returns-clause-verdicts : goal.returns-clause-verdicts
returns-clause-verdicts c =
    subst (λ (list : List Verdict). IfOk c.verdicts.result (λ verdicts. verdicts.items ≡ list))
    (judged c.args.decls.now (lent_in c.args.beans.now) c.args.bean_type c.args.quals.now _ (lent_in c.deref.result.now) c.of.result
    c.required.ensures (ap lent_in c.deref.ensures.value ∙ c.in_ok-eligible.ensures) c.of.ensures) c.verdicts.ensures
