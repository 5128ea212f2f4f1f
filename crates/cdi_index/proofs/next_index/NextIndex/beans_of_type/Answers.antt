use Rattle.cdi_index.proofs.Common.{◌≡◌, map, ap, ◌∙◌, filter, IfOk-weaker, applied, stored, Decl, List, Word, [], ◌∷◌, word_at, has, beans}
use Rattle.cdi_index.proofs.InOrderLemmas.{under-words}
use Rattle.cdi_index.specs.{InOrder.AreSought, Replaced.replaced_next, Slots.kept_next}
use Rattle.cdi_index.specs.declared.under.Sought.TheVariants as sought
use Rattle.cdi_postings.specs.declared.word.Reason.TheVariants as reasons
use Rattle.cdi_index.proofs.SoughtLemmas.{of-type}
use Rattle.cdi_index.proofs.next_index.NextIndex.beans_of_type.Goals as goal

pub returns : goal.returns
returns c =
    let next = c.self.inside.slots.next.now in
    let shelf = c.self.inside.slots.shelf.now in
    let it = c.self.invariant in
    let t = c.args.bean_type.now in
    let words : List Word = word_at reasons.HasType t ∷ [] in
    IfOk-weaker c.sought_under.result
    (λ list. AreSought (kept_next shelf next) (replaced_next shelf next) c.self.inside.postings.now words (sought.OfType c.args.bean_type)
    (map (λ bean. bean.now) list.items))
    (λ list. map (λ bean. bean.now) list.items ≡ filter (λ b. has b.types t) (beans c.args.self.now))
    (λ list is. is.are
    ∙ ap (filter (λ b. has b.types t)) (under-words next.decls next.numbered (applied next.first next.changes.items (stored shelf))
    (kept_next shelf next) c.self.inside.postings.now it.at it.exact it.sound it.distinct it.numbered words is.ordered is.in_order
    (replaced_next shelf next) it.turned)
    ∙ of-type next.decls t ∙ ap (λ (ds : List Decl). filter (λ b. has b.types t) (beans ds)) c.self.view_is)
    c.sought_under.ensures
