use Rattle.cdi_live.proofs.Common.{◌≡◌, List, map, filter, ap, ◌∙◌, ℕ, flat_map, Effective, beans, entries}
use Rattle.cdi_live.proofs.Common.{sorted_by, observes_one, observers, observes, observing, IfOk-weaker}
use Rattle.cdi_observe.specs.{Observers.is_before, Lent.lent_in}
use Rattle.cdi_questions.proofs.ObservedLemmas.{observing_observed}
use Rattle.cdi_questions.specs.Observed.{observed_types}
use Rattle.cdi_live.proofs.event_compare.observing_after.Goals as goal

pub returns : goal.returns
returns c =
    let ds = c.args.next.now in
    let types = c.args.observed.now in
    let candidates : List Effective = map (λ bean. bean.now) c.deref.result.now in
    let are : candidates ≡ flat_map (entries ds) (filter (observes_one types) ds) =
    ap (map (λ bean. bean.now)) c.deref.ensures.value ∙ c.in_ok-beans.ensures in
    IfOk-weaker c.observers_in_order.result
    (λ list. lent_in list.items ≡ sorted_by is_before (filter (observes types) (observers c.decls.result.now candidates)))
    (λ list. (t : List ℕ) → types ≡ observed_types ds t → lent_in list.items ≡ observing ds (beans ds) t)
    (λ list is t of. is ∙ ap (λ es. sorted_by is_before (filter (observes types) (observers es candidates))) c.decls.ensures.value
    ∙ ap (λ xs. sorted_by is_before (filter (observes types) (observers ds xs))) are
    ∙ observing_observed ds types c.decls.ensures.distinct t of)
    c.observers_in_order.ensures
