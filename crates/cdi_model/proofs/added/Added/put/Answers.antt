use Rattle.cdi_model.proofs.Common.{Some, None, sym, ap, ◌∙◌, kind_of, name_of_decl, put_in, shared_in}
use Rattle.cdi_model.proofs.SharedLemmas.{same-place, shared-put, shared-more}
use Rattle.cdi_model.proofs.added.Added.put.Goals as goal

pub returns-in-Some-clause-ok : goal.returns-in-Some-clause-ok
returns-in-Some-clause-ok c =
    let d = c.args.decl.value in
    shared-put c.args.decl c.self.inside.list.items c.in-Some.position
    (sym (same-place c.kind.result (kind_of d) c.name.result.now (name_of_decl d) c.deref.result.now c.self.inside.list.items
    (Some c.in-Some.position) (c.kind.ensures ∙ ap kind_of c.deref-2.ensures) (c.name.ensures ∙ ap name_of_decl c.deref-3.ensures)
    c.deref.ensures.value c.in-Some.ensures))
    ∙ ap (λ ds. put_in ds d) c.self.view_is

pub returns-in_ok-push-in-None-clause-ok : goal.returns-in_ok-push-in-None-clause-ok
returns-in_ok-push-in-None-clause-ok c =
    let d = c.args.decl.value in
    ap shared_in c.in_ok-push-in-None.ensures.items
    ∙ shared-more c.args.decl c.self.inside.list.items
    (sym (same-place c.kind.result (kind_of d) c.name.result.now (name_of_decl d) c.deref.result.now c.self.inside.list.items
    None (c.kind.ensures ∙ ap kind_of c.deref-2.ensures) (c.name.ensures ∙ ap name_of_decl c.deref-3.ensures)
    c.deref.ensures.value c.in-None.ensures))
    ∙ ap (λ ds. put_in ds d) c.self.view_is
