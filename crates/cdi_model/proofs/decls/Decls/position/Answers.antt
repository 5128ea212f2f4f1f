use Rattle.cdi_model.proofs.Common.{◌+◌, Some, None, is_some, position, sym, ap, ◌∙◌, is_of}
use Rattle.cdi_model.proofs.JoinedLemmas.{place-first, place-second}
use Rattle.cdi_model.proofs.PositionLemmas.{position-found, position-there}
use Rattle.cdi_model.proofs.decls.Decls.position.Goals as goal

pub returns-in-Some-clause-value : goal.returns-in-Some-clause-value
returns-in-Some-clause-value c =
    place-first c.args.kind c.args.name.now c.self.inside.kept c.self.inside.added c.in-Some.position c.in-Some.ensures
    ∙ ap (position (is_of c.args.kind c.args.name.now)) c.self.view_is

pub returns-in-Some-clause-declaration : goal.returns-in-Some-clause-declaration
returns-in-Some-clause-declaration c =
    position-there c.args.kind c.args.name.now c.args.self.now c.in-Some.position (sym (returns-in-Some-clause-value c))

pub returns-in-Some-clause-found : goal.returns-in-Some-clause-found
returns-in-Some-clause-found c = ap is_some (returns-in-Some-clause-value c) ∙ position-found c.args.kind c.args.name.now c.args.self.now

pub returns-in-Some-position-clause-value : goal.returns-in-Some-position-clause-value
returns-in-Some-position-clause-value c =
    ap (λ n. Some (n + c.in-Some-position.position)) c.len.ensures
    ∙ place-second c.args.kind c.args.name.now c.self.inside.kept c.self.inside.added (Some c.in-Some-position.position)
    c.in_default.ensures c.in-Some-position.ensures
    ∙ ap (position (is_of c.args.kind c.args.name.now)) c.self.view_is

pub returns-in-Some-position-clause-declaration : goal.returns-in-Some-position-clause-declaration
returns-in-Some-position-clause-declaration c =
    position-there c.args.kind c.args.name.now c.args.self.now (c.len.result + c.in-Some-position.position)
    (sym (returns-in-Some-position-clause-value c))

pub returns-in-Some-position-clause-found : goal.returns-in-Some-position-clause-found
returns-in-Some-position-clause-found c =
    ap is_some (returns-in-Some-position-clause-value c) ∙ position-found c.args.kind c.args.name.now c.args.self.now

pub returns-in-None-clause-value : goal.returns-in-None-clause-value
returns-in-None-clause-value c =
    place-second c.args.kind c.args.name.now c.self.inside.kept c.self.inside.added None c.in_default.ensures c.in-None.ensures
    ∙ ap (position (is_of c.args.kind c.args.name.now)) c.self.view_is

pub returns-in-None-clause-found : goal.returns-in-None-clause-found
returns-in-None-clause-found c = ap is_some (returns-in-None-clause-value c) ∙ position-found c.args.kind c.args.name.now c.args.self.now
