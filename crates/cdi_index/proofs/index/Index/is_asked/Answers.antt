use Rattle.cdi_index.proofs.Common.{refl, ap, ◌∙◌, list_any, under, is_asked, is_asker, kept_at, stored, Asked, State}
use Rattle.cdi_index.proofs.{AskedLemmas.askers-are, KeptAtLemmas.shelf-at}
use Rattle.cdi_index.proofs.index.Index.is_asked.Goals as goal

pub returns : goal.returns
returns c =
    let asked : Asked = c.args.asked in
    let shelf = c.self.inside.shelf in
    c.is_asked_at.ensures
    ∙ ap (list_any (λ s. is_asker c.self.inside.decls asked (kept_at shelf s))) c.under-slots.ensures
    ∙ ap (λ w. list_any (λ s. is_asker c.self.inside.decls asked (kept_at shelf s)) (under c.self.inside.postings w)) c.word.ensures
    ∙ askers-are asked.question asked.name.now asked.uses.now c.self.inside.decls (stored shelf) (kept_at shelf) c.self.inside.postings
    (shelf-at shelf c.self.invariant.shelved) c.self.invariant.exact c.self.invariant.sound c.self.invariant.distinct asked refl refl refl
    ∙ ap (λ (s : State). is_asked s.decls asked.question asked.name.now asked.uses.now) c.self.view_is
