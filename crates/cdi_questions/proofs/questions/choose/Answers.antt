use Rattle.std.proofs.Common.{◌≡◌, ◌&&◌, List, filter, map, refl, sym, ap, subst, ◌∙◌}
use Rattle.std.proofs.lemmas.Result.{IfOk-weaker}
use Rattle.cdi_match.specs.Chain.{has}
use Rattle.cdi_effective.specs.{Beans.beans, declared.records.Effective.Effective}
use Rattle.cdi_index.specs.{Candidates.AreFirst, Made.serves_as_alternative}
use Rattle.cdi_resolve.specs.Choices.{chosen, HasEnough}
use Rattle.cdi_questions.specs.Found.{is_found}
use Rattle.cdi_questions.proofs.AlternativeLemmas.{choose_alternatives}
use Rattle.cdi_questions.proofs.CandidateLemmas.{has_enough}
use Rattle.cdi_questions.proofs.questions.choose.Goals as goal

pub returns-in-All-clause-choice : goal.returns-in-All-clause-choice
returns-in-All-clause-choice c =
    let ds = c.args.index.now.decls in
    let t = c.args.bean_type in
    let quals = c.args.quals.now in
    let candidates : List Effective = map (λ bean. bean.now) c.deref.result.now in
    let are : candidates ≡ filter (λ b. has b.types t) (beans ds) =
    ap (map (λ bean. bean.now)) c.deref.ensures.value ∙ subst (AreFirst ds t) c.in-All.is c.in_ok-beans.ensures in
    IfOk-weaker c.choose_from.result
    (λ choice. (bs : List Effective) → HasEnough t candidates bs → choice ≡ chosen c.decls.result.now bs t quals)
    (λ choice. choice ≡ chosen ds (beans ds) t quals)
    (λ choice is. is (beans ds) (subst (λ xs. HasEnough t xs (beans ds)) (sym are) (has_enough t (beans ds)))
    ∙ ap (λ es. chosen es (beans ds) t quals) c.decls.ensures.value)
    c.choose_from.ensures.choice

pub returns-then-is_found-clause-choice : goal.returns-then-is_found-clause-choice
returns-then-is_found-clause-choice c =
    let ds = c.args.index.now.decls in
    let t = c.args.bean_type in
    let quals = c.args.quals.now in
    let some : List Effective = filter (λ b. serves_as_alternative b && has b.types t) (beans ds) in
    let candidates : List Effective = map (λ bean. bean.now) c.deref-in-Alternatives.result.now in
    let are : candidates ≡ some =
    ap (map (λ bean. bean.now)) c.deref-in-Alternatives.ensures.value ∙ subst (AreFirst ds t) c.in-Alternatives.is c.in_ok-beans.ensures in
    let chooses : c.in_ok-choice-in-Alternatives.choice ≡ chosen ds some t quals =
    c.in_ok-choice-in-Alternatives.ensures.choice some (subst (λ xs. HasEnough t xs some) (sym are) refl)
    ∙ ap (λ es. chosen es some t quals) c.decls-in-Alternatives.ensures.value in
    chooses
    ∙ choose_alternatives ds t quals (beans ds) (ap is_found (sym chooses) ∙ sym c.is_found.ensures ∙ c.if-is_found.true)
