use Rattle.cdi_index.proofs.Common.{◌≡◌, ap, ◌∙◌, filter, IfOk-weaker, applied, stored, Decl, List}
use Rattle.base_lists.proofs.Filters.{filter-same}
use Rattle.cdi_index.proofs.InOrderLemmas.{observed-found}
use Rattle.cdi_index.specs.{InOrder.is_observed_by, Slots.kept_next, Under.is_observed}
use Rattle.cdi_index.proofs.next_index.NextIndex.observed_among.Goals as goal

pub returns : goal.returns
returns c =
    let next = c.self.inside.slots.next.now in
    let shelf = c.self.inside.slots.shelf.now in
    let postings = c.self.inside.postings.now in
    let types = c.args.types.now in
    let it = c.self.invariant in
    IfOk-weaker c.observed_among.result
    (λ list. list.items ≡ filter (is_observed_by (kept_next shelf next) postings) types)
    (λ list. list.items ≡ filter (is_observed c.args.self.now) types)
    (λ list is. is
    ∙ filter-same (is_observed_by (kept_next shelf next) postings) (is_observed next.decls) types
    (observed-found next.decls next.numbered (applied next.first next.changes.items (stored shelf)) (kept_next shelf next) postings it.at
    it.exact it.sound it.distinct it.numbered)
    ∙ ap (λ (ds : List Decl). filter (is_observed ds) types) c.self.view_is)
    c.observed_among.ensures
