use Rattle.cdi_index.proofs.Common.{◌≡◌, map, ap, ◌∙◌, filter, has_one, IfOk-weaker, applied, stored, Decl, List}
use Rattle.cdi_index.proofs.InOrderLemmas.{decls-under}
use Rattle.cdi_index.specs.{InOrder.AreUnder, Slots.kept_next}
use Rattle.cdi_index.proofs.next_index.NextIndex.decls_under.Goals as goal

pub returns : goal.returns
returns c =
    let next = c.self.inside.slots.next.now in
    let shelf = c.self.inside.slots.shelf.now in
    let words = c.args.words.now in
    let it = c.self.invariant in
    IfOk-weaker c.decls_under.result
    (λ list. AreUnder (kept_next shelf next) c.self.inside.postings.now words next.decls (map (λ d. d.now) list.items))
    (λ list. map (λ d. d.now) list.items ≡ filter (has_one c.args.self.now words) c.args.self.now)
    (λ list is. is.are
    ∙ decls-under next.decls next.numbered (applied next.first next.changes.items (stored shelf)) (kept_next shelf next)
    c.self.inside.postings.now it.at it.exact it.sound it.distinct it.numbered words is.ordered is.in_order
    ∙ ap (λ (ds : List Decl). filter (has_one ds words) ds) c.self.view_is)
    c.decls_under.ensures
