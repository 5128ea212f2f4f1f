use Rattle.cdi_index.proofs.Common.{◌≡◌, ap, ◌∙◌, filter, kept_at, stored, IfOk-weaker, State}
use Rattle.base_lists.proofs.Filters.{filter-same}
use Rattle.cdi_index.proofs.{InOrderLemmas.observed-found, KeptAtLemmas.shelf-at}
use Rattle.cdi_index.specs.{InOrder.is_observed_by, Under.is_observed}
use Rattle.cdi_index.proofs.index.Index.observed_among.Goals as goal

pub returns : goal.returns
returns c =
    let ds = c.self.inside.decls in
    let shelf = c.self.inside.shelf in
    let postings = c.self.inside.postings in
    let types = c.args.types.now in
    let it = c.self.invariant in
    IfOk-weaker c.observed_among.result
    (λ list. list.items ≡ filter (is_observed_by (kept_at shelf) postings) types)
    (λ list. list.items ≡ filter (is_observed c.args.self.now.decls) types)
    (λ list is. is
    ∙ filter-same (is_observed_by (kept_at shelf) postings) (is_observed ds) types
    (observed-found ds shelf.numbered (stored shelf) (kept_at shelf) postings (shelf-at shelf it.shelved) it.exact it.sound it.distinct
    it.numbered)
    ∙ ap (λ (s : State). filter (is_observed s.decls) types) c.self.view_is)
    c.observed_among.ensures
