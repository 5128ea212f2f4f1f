use Rattle.cdi_model.proofs.Common.{is_some, ap, sym, ◌∙◌, find_decl, remove_from, changed_by, kept}
use Rattle.cdi_model.proofs.StandingLemmas.{absent, is_found, removed, unremoved}
use Rattle.cdi_model.proofs.kept.Kept.remove.Goals as goal

pub returns-in_default-clause-found : goal.returns-in_default-clause-found
returns-in_default-clause-found c =
    sym (ap is_some (absent c.self.inside.base c.self.inside.gone c.self.inside.changed c.self.inside.replaced.items c.self.invariant
    c.args.kind c.args.name.now (sym c.in_default.ensures)))
    ∙ ap (λ ds. is_some (find_decl c.args.kind c.args.name.now ds)) c.self.view_is

pub returns-in_default-clause-removed : goal.returns-in_default-clause-removed
returns-in_default-clause-removed c =
    sym c.self.view_is
    ∙ sym (unremoved c.self.inside.base c.self.inside.gone c.self.inside.changed c.self.inside.replaced.items c.self.invariant
    c.args.kind c.args.name.now (sym c.in_default.ensures))
    ∙ ap (remove_from c.args.kind c.args.name.now) c.self.view_is

pub returns-clause-found : goal.returns-clause-found
returns-clause-found c =
    sym (is_found c.self.inside.base c.self.inside.gone c.self.inside.changed c.self.inside.replaced.items c.self.invariant
    c.args.kind c.args.name.now c.in-Some.place (sym c.in-Some.ensures))
    ∙ ap (λ ds. is_some (find_decl c.args.kind c.args.name.now ds)) c.self.view_is

pub returns-clause-removed : goal.returns-clause-removed
returns-clause-removed c =
    ap (λ marks. kept marks (changed_by c.self.inside.replaced.items c.self.inside.base)) c.insert.ensures.set
    ∙ removed c.self.inside.base c.self.inside.gone c.self.inside.changed c.self.inside.replaced.items c.self.invariant
    c.args.kind c.args.name.now c.in-Some.place (sym c.in-Some.ensures)
    ∙ ap (remove_from c.args.kind c.args.name.now) c.self.view_is
