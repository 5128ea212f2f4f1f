use Rattle.cdi_index.proofs.Common.{sym, ap, ◌∙◌, list_any, same_key, stored, Change, made_in}
use Rattle.cdi_index.proofs.KeyLemmas.{made-apart, made-at, place-of}
use Rattle.cdi_index.proofs.replaced.made_after.Goals as goal

pub returns-in-Some : goal.returns-in-Some
returns-in-Some c =
    let key = c.args.key.now in
    let changes = c.args.changes.now in
    c.as_ref.ensures.value
    ∙ made-at changes (made_in (stored c.args.shelf.now key)) key c.in-Some.index c.index-changes-index.result
    (place-of (λ (x : Change). x.key) changes c.args.affected.now.keys key c.in-Some.index c.requires c.in-Some.ensures.index)

pub returns-in-None : goal.returns-in-None
returns-in-None c =
    let key = c.args.key.now in
    c.find.ensures
    ∙ made-apart c.args.changes.now (made_in (stored c.args.shelf.now key)) key
    (ap (list_any (same_key key)) c.requires ∙ sym c.in-None.ensures.found)
