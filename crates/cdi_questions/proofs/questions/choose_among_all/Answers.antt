use Rattle.std.proofs.Common.{◌≡◌, List, filter, map, sym, ap, subst, ◌∙◌}
use Rattle.std.proofs.lemmas.Result.{IfOk-weaker}
use Rattle.cdi_match.specs.Chain.{has}
use Rattle.cdi_effective.specs.{Beans.beans, declared.records.Effective.Effective}
use Rattle.cdi_resolve.specs.Choices.{chosen, HasEnough}
use Rattle.cdi_questions.proofs.CandidateLemmas.{has_enough}
use Rattle.cdi_questions.proofs.questions.choose_among_all.Goals as goal

pub returns-clause-choice : goal.returns-clause-choice
returns-clause-choice c =
    let ds = c.args.index.now.decls in
    let t = c.args.bean_type in
    let quals = c.args.quals.now in
    let candidates : List Effective = map (λ bean. bean.now) c.deref.result.now in
    let are : candidates ≡ filter (λ b. has b.types t) (beans ds) =
    ap (map (λ bean. bean.now)) c.deref.ensures.value ∙ c.in_ok-candidates.ensures in
    IfOk-weaker c.choose_from.result
    (λ choice. (bs : List Effective) → HasEnough t candidates bs → choice ≡ chosen c.decls.result.now bs t quals)
    (λ choice. choice ≡ chosen ds (beans ds) t quals)
    (λ choice is. is (beans ds) (subst (λ xs. HasEnough t xs (beans ds)) (sym are) (has_enough t (beans ds)))
    ∙ ap (λ es. chosen es (beans ds) t quals) c.decls.ensures.value)
    c.choose_from.ensures.choice
