use Rattle.cdi_index.proofs.Common.{◌≡◌, map, ap, ◌∙◌, filter, has_one, kept_at, stored, IfOk-weaker, State}
use Rattle.cdi_index.proofs.KeptAtLemmas.{shelf-at}
use Rattle.cdi_index.proofs.InOrderLemmas.{decls-under}
use Rattle.cdi_index.specs.InOrder.{AreUnder}
use Rattle.cdi_index.proofs.index.Index.decls_under.Goals as goal

pub returns : goal.returns
returns c =
    let ds = c.self.inside.decls in
    let shelf = c.self.inside.shelf in
    let words = c.args.words.now in
    let it = c.self.invariant in
    IfOk-weaker c.decls_under.result
    (λ list. AreUnder (kept_at shelf) c.self.inside.postings words ds (map (λ d. d.now) list.items))
    (λ list. map (λ d. d.now) list.items ≡ filter (has_one c.args.self.now.decls words) c.args.self.now.decls)
    (λ list is. is.are
    ∙ decls-under ds shelf.numbered (stored shelf) (kept_at shelf) c.self.inside.postings (shelf-at shelf it.shelved) it.exact
    it.sound it.distinct it.numbered words is.ordered is.in_order
    ∙ ap (λ (s : State). filter (has_one s.decls words) s.decls) c.self.view_is)
    c.decls_under.ensures
