use Rattle.cdi_index.proofs.Common.{List, refl, ap, ◌∙◌, list_any, under, is_asked, is_asker, applied, stored, Asked, Decl}
use Rattle.cdi_index.proofs.AskedLemmas.{askers-are}
use Rattle.cdi_index.specs.Slots.{kept_next}
use Rattle.cdi_index.proofs.next_index.NextIndex.is_asked.Goals as goal

pub returns : goal.returns
returns c =
    let asked : Asked = c.args.asked in
    let next = c.self.inside.slots.next.now in
    let shelf = c.self.inside.slots.shelf.now in
    let listings = c.self.inside.postings.now in
    let it = c.self.invariant in
    c.is_asked_at.ensures
    ∙ ap (list_any (λ s. is_asker next.decls asked (kept_next shelf next s))) c.under-slots.ensures
    ∙ ap (λ w. list_any (λ s. is_asker next.decls asked (kept_next shelf next s)) (under listings w)) c.word.ensures
    ∙ askers-are asked.question asked.name.now asked.uses.now next.decls (applied next.first next.changes.items (stored shelf))
    (kept_next shelf next) listings it.at it.exact it.sound it.distinct asked refl refl refl
    ∙ ap (λ (d : List Decl). is_asked d asked.question asked.name.now asked.uses.now) c.self.view_is
