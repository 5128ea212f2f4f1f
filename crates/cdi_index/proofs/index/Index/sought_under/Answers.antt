use Rattle.cdi_index.proofs.Common.{◌≡◌, List, map, ap, ◌∙◌, Effective, kept_at, stored, filter, beans_under, IfOk-weaker, State, is_sought}
use Rattle.cdi_index.proofs.Common.{get, same_key}
use Rattle.cdi_index.proofs.KeptAtLemmas.{shelf-at}
use Rattle.cdi_index.proofs.InOrderLemmas.{under-words}
use Rattle.cdi_index.specs.InOrder.{AreSought}
use Rattle.cdi_index.proofs.index.Index.sought_under.Goals as goal

pub returns : goal.returns
returns c =
    let ds = c.self.inside.decls in
    let shelf = c.self.inside.shelf in
    let words = c.args.words.now in
    let it = c.self.invariant in
    let found : List Effective → List Effective = filter (is_sought c.args.sought) in
    IfOk-weaker c.sought_under.result
    (λ list. AreSought (kept_at shelf) (get same_key shelf.replaced) c.self.inside.postings words c.args.sought
    (map (λ bean. bean.now) list.items))
    (λ list. map (λ bean. bean.now) list.items ≡ found (beans_under c.args.self.now.decls words))
    (λ list is. is.are
    ∙ ap found (under-words ds shelf.numbered (stored shelf) (kept_at shelf) c.self.inside.postings (shelf-at shelf it.shelved) it.exact
    it.sound it.distinct it.numbered words is.ordered is.in_order (get same_key shelf.replaced) it.replaced)
    ∙ ap (λ (s : State). found (beans_under s.decls words)) c.self.view_is)
    c.sought_under.ensures
