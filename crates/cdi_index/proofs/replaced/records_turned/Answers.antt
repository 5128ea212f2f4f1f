use Rattle.cdi_index.proofs.Common.{sym, ap, ◌∙◌, list_any, same_key, Turn, get}
use Rattle.cdi_index.proofs.KeyLemmas.{place-of, turned-apart, turned-at}
use Rattle.cdi_index.proofs.replaced.records_turned.Goals as goal

pub returns-in-Some : goal.returns-in-Some
returns-in-Some c =
    let key = c.args.key.now in
    let turns = c.args.turns.now in
    c.as_ref.ensures.value ∙ ap (λ (x : Turn). x.records) c.index.ensures
    ∙ turned-at turns.list.items (get same_key c.args.shelf.now.replaced) key c.in-Some.index c.index.result.now
    (place-of (λ (x : Turn). x.key) turns.list.items turns.beans.keys key c.in-Some.index c.requires c.in-Some.ensures.index)

pub returns-in-None : goal.returns-in-None
returns-in-None c =
    let key = c.args.key.now in
    c.get.ensures.value
    ∙ turned-apart c.args.turns.now.list.items (get same_key c.args.shelf.now.replaced) key
    (ap (list_any (same_key key)) c.requires ∙ sym c.in-None.ensures.found)
