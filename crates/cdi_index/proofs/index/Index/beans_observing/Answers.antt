use Rattle.cdi_index.proofs.Common.{◌≡◌, true, map, ap, ◌∙◌, flat_map, filter, entries, beans_under, observes_one, IfOk-weaker}
use Rattle.cdi_index.proofs.SoughtLemmas.{of-observers}
use Rattle.cdi_index.proofs.index.Index.beans_observing.Goals as goal

pub returns : goal.returns
returns c =
    let ds = c.args.self.now.decls in
    let types = c.args.types.now in
    IfOk-weaker c.sought_under.result
    (λ list. map (λ bean. bean.now) list.items ≡ filter (λ b. true) (beans_under ds c.as_slice.result.now))
    (λ list. map (λ bean. bean.now) list.items ≡ flat_map (entries ds) (filter (observes_one types) ds))
    (λ list are. are
    ∙ ap (λ ws. filter (λ b. true) (beans_under ds ws)) (c.as_slice.ensures.value ∙ c.in_ok-words.ensures)
    ∙ of-observers ds types)
    c.sought_under.ensures
