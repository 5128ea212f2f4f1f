use Rattle.cdi_index.proofs.Common.{ℕ, Bool, List, [], ◌∷◌, ◌++◌, filter, take, sym, ap, ◌∙◌}
use Rattle.std.proofs.lemmas.List.Elements.{filter_more}
use Rattle.cdi_index.specs.InOrder.{is_observed_by}
use Rattle.cdi_index.proofs.under.observed_among.Goals as goal

pub loop-event_type-preserved : goal.loop-event_type-preserved
loop-event_type-preserved g c =
    let p : List ℕ → Bool = is_observed_by (g.S.Slots.kept c.args.shelved.now) c.args.postings.now in
    let types : List (List ℕ) = c.args.types.now in
    let i : ℕ = c.loop-event_type.event_type-index in
    let name : List ℕ = c.event_type-item.result in
    c.in_ok-push_observed.ensures
    ∙ ap (λ list. list ++ filter p (name ∷ [])) c.loop-event_type.invariant
    ∙ ap (λ n. filter p (take i types) ++ filter p (n ∷ [])) c.event_type-item.is
    ∙ sym (filter_more p types i name c.loop-event_type-test.true)
