use Rattle.cdi_index.proofs.Common.{◌≡◌, map, ap, ◌∙◌, filter, flat_map, IfOk-weaker, applied, stored, beans_under, Decl, List, Word, true, entries, observes_one}
use Rattle.cdi_index.proofs.InOrderLemmas.{under-words}
use Rattle.cdi_index.specs.{InOrder.AreSought, Replaced.replaced_next, Slots.kept_next}
use Rattle.cdi_index.specs.declared.under.Sought.TheVariants as sought
use Rattle.cdi_index.proofs.SoughtLemmas.{of-observers}
use Rattle.cdi_index.proofs.next_index.NextIndex.beans_observing.Goals as goal

pub returns : goal.returns
returns c =
    let next = c.self.inside.slots.next.now in
    let shelf = c.self.inside.slots.shelf.now in
    let it = c.self.invariant in
    let types = c.args.types.now in
    let words : List Word = c.deref.result.now in
    IfOk-weaker c.sought_under.result
    (λ list. AreSought (kept_next shelf next) (replaced_next shelf next) c.self.inside.postings.now words sought.Each
    (map (λ bean. bean.now) list.items))
    (λ list. map (λ bean. bean.now) list.items ≡ flat_map (entries c.args.self.now) (filter (observes_one types) c.args.self.now))
    (λ list is. is.are
    ∙ ap (filter (λ b. true)) (under-words next.decls next.numbered (applied next.first next.changes.items (stored shelf))
    (kept_next shelf next) c.self.inside.postings.now it.at it.exact it.sound it.distinct it.numbered words is.ordered is.in_order
    (replaced_next shelf next) it.turned)
    ∙ ap (λ ws. filter (λ b. true) (beans_under next.decls ws)) (c.deref.ensures.value ∙ c.in_ok-words.ensures)
    ∙ of-observers next.decls types ∙ ap (λ (ds : List Decl). flat_map (entries ds) (filter (observes_one types) ds)) c.self.view_is)
    c.sought_under.ensures
