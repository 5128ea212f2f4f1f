use Rattle.cdi_index.proofs.Common.{List, sym, ap, ◌∙◌, Effective, filter, beans_under, State, is_sought, get, same_key, kept_at, stored}
use Rattle.cdi_index.proofs.KeptAtLemmas.{shelf-at}
use Rattle.cdi_index.proofs.Common.{subst}
use Rattle.cdi_index.proofs.InOrderLemmas.{with-in-order, under-words}
use Rattle.cdi_index.specs.InOrder.{kept_with, AreInOrder}
use Rattle.cdi_index.proofs.index.Index.sought_in_one.Goals as goal

pub returns : goal.returns
returns c =
    let ds = c.self.inside.decls in
    let shelf = c.self.inside.shelf in
    let words = c.args.words.now in
    let it = c.self.invariant in
    let found : List Effective → List Effective = filter (is_sought c.args.sought) in
    c.in_ok-list.ensures
    ∙ ap found (under-words ds shelf.numbered (stored shelf) (kept_at shelf) c.self.inside.postings (shelf-at shelf it.shelved) it.exact
    it.sound it.distinct it.numbered words (kept_with (kept_at shelf) c.in-Some.word c.in-Some.slot)
    (subst (λ es. AreInOrder es (kept_with (kept_at shelf) c.in-Some.word c.in-Some.slot)) (sym (c.in-Some.ensures (kept_with (kept_at shelf))))
    (with-in-order c.in-Some.word (kept_at shelf c.in-Some.slot) (kept_with (kept_at shelf) c.in-Some.word c.in-Some.slot)
    (λ e has. has) (λ e has. has)))
    (get same_key shelf.replaced) it.replaced)
    ∙ ap (λ (s : State). found (beans_under s.decls words)) c.self.view_is
