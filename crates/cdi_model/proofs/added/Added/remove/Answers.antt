use Rattle.cdi_model.proofs.Common.{is_some, sym, ap, ◌∙◌, find_decl, remove_from, shared_in}
use Rattle.cdi_model.proofs.SharedLemmas.{place_among, shared-found, shared-absent, shared-removed}
use Rattle.cdi_model.proofs.added.Added.remove.Goals as goal

pub returns-in_default-clause-found : goal.returns-in_default-clause-found
returns-in_default-clause-found c =
    ap is_some (c.in_default.ensures ∙ ap (place_among c.args.kind c.args.name.now) c.deref.ensures.value)
    ∙ shared-found c.args.kind c.args.name.now c.self.inside.list.items
    ∙ ap (λ ds. is_some (find_decl c.args.kind c.args.name.now ds)) c.self.view_is

pub returns-in_default-clause-removed : goal.returns-in_default-clause-removed
returns-in_default-clause-removed c =
    sym c.self.view_is
    ∙ shared-absent c.args.kind c.args.name.now c.self.inside.list.items
    (sym (c.in_default.ensures ∙ ap (place_among c.args.kind c.args.name.now) c.deref.ensures.value))
    ∙ ap (remove_from c.args.kind c.args.name.now) c.self.view_is

pub returns-clause-found : goal.returns-clause-found
returns-clause-found c =
    ap is_some (c.in-Some.ensures ∙ ap (place_among c.args.kind c.args.name.now) c.deref.ensures.value)
    ∙ shared-found c.args.kind c.args.name.now c.self.inside.list.items
    ∙ ap (λ ds. is_some (find_decl c.args.kind c.args.name.now ds)) c.self.view_is

pub returns-clause-removed : goal.returns-clause-removed
returns-clause-removed c =
    ap shared_in c.remove-removed.ensures.items
    ∙ shared-removed c.args.kind c.args.name.now c.self.inside.list.items c.in-Some.position
    (sym (c.in-Some.ensures ∙ ap (place_among c.args.kind c.args.name.now) c.deref.ensures.value))
    ∙ ap (remove_from c.args.kind c.args.name.now) c.self.view_is
