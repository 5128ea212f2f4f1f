use Rattle.std.proofs.Common.{◌≡◌, subst, ap, ◌∙◌, IfOk, List}
use Rattle.cdi_explain.proofs.NameLemmas.{judged}
use Rattle.cdi_explain.specs.{Lent.lent_in, declared.verdict.Verdict.Verdict}
use Rattle.cdi_explain.proofs.named.verdicts_on_name.Goals as goal

pub returns-clause-verdicts : goal.returns-clause-verdicts
returns-clause-verdicts c =
    subst (λ (list : List Verdict). IfOk c.verdicts.result (λ verdicts. verdicts.items ≡ list))
    (judged (lent_in c.args.beans.now) c.args.name (lent_in c.deref.result.now) c.of-rivals.result
    (ap lent_in c.deref.ensures.value ∙ c.in_ok-named.ensures) c.of-rivals.ensures) c.verdicts.ensures
