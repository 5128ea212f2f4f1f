use Rattle.std.proofs.Common.{Some, sym, ap, ◌∙◌}
use Rattle.std.specs.List.{find}
use Rattle.cdi_model.specs.DeclList.{find_decl}
use Rattle.cdi_model.specs.declared.decl.Kind.TheVariants as kinds
use Rattle.cdi_subjects.proofs.ProxyLemmas.{found-own, own-bindings, records-of}
use Rattle.cdi_subjects.specs.Proxies.{is_told_by}
use Rattle.cdi_subjects.proofs.proxies.needs_subclass.Goals as goal

pub needs_subclass_by-requires-clause-found : goal.needs_subclass_by-requires-clause-found
needs_subclass_by-requires-clause-found g c =
    let ds = g.V.View.list c.args.view.now in
    let name = c.args.id.now.class in
    found-own ds name c.in-Some-Bean.bean
    (ap (find_decl kinds.Bean name) (sym c.decls.ensures.value) ∙ sym c.in-Some-Bean.ensures ∙ ap Some c.in-Some-Bean.field-0-is)

pub needs_subclass_by-requires-clause-own : goal.needs_subclass_by-requires-clause-own
needs_subclass_by-requires-clause-own g c =
    let ds = g.V.View.list c.args.view.now in
    let name = c.args.id.now.class in
    let bean = c.in-Some-Bean.bean in
    let test = is_told_by c.args.id.now.producer in
    own-bindings ds bean test c.in-Some.record.now
    (ap (find test) (sym (records-of ds name bean
    (ap (find_decl kinds.Bean name) (sym c.decls.ensures.value) ∙ sym c.in-Some-Bean.ensures ∙ ap Some c.in-Some-Bean.field-0-is)))
    ∙ ap (find test) (sym c.records.ensures) ∙ sym c.in-Some.ensures)
