use Rattle.cdi_model.proofs.Common.{position, ap, ◌∙◌, is_of}
use Rattle.cdi_model.proofs.SharedLemmas.{place_among, position-shared}
use Rattle.cdi_model.proofs.added.Added.position.Goals as goal

pub returns : goal.returns
returns c =
    c.position_among.ensures ∙ ap (place_among c.args.kind c.args.name.now) c.deref.ensures.value
    ∙ position-shared c.args.kind c.args.name.now c.self.inside.list.items
    ∙ ap (position (is_of c.args.kind c.args.name.now)) c.self.view_is
