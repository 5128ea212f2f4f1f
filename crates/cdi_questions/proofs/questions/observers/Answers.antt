use Rattle.std.proofs.Common.{◌≡◌, ℕ, List, filter, flat_map, map, ap, ◌∙◌}
use Rattle.std.proofs.lemmas.Result.{IfOk-weaker}
use Rattle.cdi_effective.specs.{Beans.beans, Beans.entries, declared.records.Effective.Effective}
use Rattle.cdi_index.specs.Under.{observes_one}
use Rattle.cdi_observe.specs.Observers.{notified, notified_by}
use Rattle.cdi_questions.specs.Observed.{observed_types}
use Rattle.cdi_questions.proofs.{CandidateLemmas.observing_enough, ObservedLemmas.observed_enough}
use Rattle.cdi_questions.proofs.questions.observers.Goals as goal

pub returns-clause-observers : goal.returns-clause-observers
returns-clause-observers c =
    let ds = c.args.index.now.decls in
    let types = c.args.observed.now in
    let quals = c.args.quals.now in
    let candidates : List Effective = map (λ bean. bean.now) c.deref.result.now in
    let are : candidates ≡ flat_map (entries ds) (filter (observes_one types) ds) =
    ap (map (λ bean. bean.now)) c.deref.ensures.value ∙ c.in_ok-candidates.ensures in
    IfOk-weaker c.evaluate_observers.result
    (λ ids. ids ≡ notified_by c.decls.result.now candidates types quals)
    (λ ids. (t : List ℕ) → types ≡ observed_types ds t → ids ≡ notified ds (beans ds) t quals)
    (λ ids is t of. is
    ∙ ap (λ es. notified_by es candidates types quals) c.decls.ensures.value ∙ ap (λ xs. notified_by ds xs types quals) are
    ∙ observing_enough ds types quals c.decls.ensures.distinct
    ∙ ap (λ ts. notified_by ds (beans ds) ts quals) of
    ∙ observed_enough ds t quals)
    c.evaluate_observers.ensures.observers
