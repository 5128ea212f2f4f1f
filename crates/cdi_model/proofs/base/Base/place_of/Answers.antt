use Rattle.cdi_model.proofs.Common.{position, ap, ◌∙◌, keys_of, key_at, same_key, is_of}
use Rattle.cdi_model.proofs.PositionLemmas.{position-keys}
use Rattle.cdi_model.proofs.base.Base.place_of.Goals as goal

pub returns-in-Some : goal.returns-in-Some
returns-in-Some c =
    let keyed = rw c.in-Some.is at c.self.invariant in
    let view = rw c.in-Some.is at c.self.view_is in
    c.get_index_of.ensures.index ∙ ap (λ m. position (same_key (key_at c.args.kind c.args.name.now)) (keys_of m.entries)) c.deref.ensures
    ∙ position-keys (key_at c.args.kind c.args.name.now) c.in-Some.map.value.entries keyed
    ∙ ap (position (is_of c.args.kind c.args.name.now)) view
