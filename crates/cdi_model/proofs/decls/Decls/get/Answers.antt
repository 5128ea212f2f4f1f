use Rattle.cdi_model.proofs.Common.{Some, None, ap, ◌∙◌, find_decl}
use Rattle.cdi_model.proofs.JoinedLemmas.{found-first, found-second}
use Rattle.cdi_model.proofs.decls.Decls.get.Goals as goal

pub returns-in-Some : goal.returns-in-Some
returns-in-Some c =
    ap Some c.deref.ensures
    ∙ found-first c.args.kind c.args.name.now c.self.inside.kept c.self.inside.added c.in-Some.decl.now.value c.in-Some.ensures
    ∙ ap (find_decl c.args.kind c.args.name.now) c.self.view_is

pub returns-in-Some-get : goal.returns-in-Some-get
returns-in-Some-get c =
    ap Some c.deref-in-Some-get.ensures
    ∙ found-second c.args.kind c.args.name.now c.self.inside.kept c.self.inside.added (Some c.in-Some-get.decl.now.value)
    c.in_default.ensures c.in-Some-get.ensures
    ∙ ap (find_decl c.args.kind c.args.name.now) c.self.view_is

pub returns-in-None : goal.returns-in-None
returns-in-None c =
    found-second c.args.kind c.args.name.now c.self.inside.kept c.self.inside.added None c.in_default.ensures c.in-None.ensures
    ∙ ap (find_decl c.args.kind c.args.name.now) c.self.view_is
