use Rattle.cdi_model.proofs.Common.{slice_get, ap, sym, ◌∙◌, find_decl, changed_by}
use Rattle.cdi_model.proofs.StandingLemmas.{absent, found}
use Rattle.cdi_model.proofs.kept.Kept.get.Goals as goal

pub returns-in_default : goal.returns-in_default
returns-in_default c =
    sym (absent c.self.inside.base c.self.inside.gone c.self.inside.changed c.self.inside.replaced.items c.self.invariant
    c.args.kind c.args.name.now (sym c.in_default.ensures))
    ∙ ap (find_decl c.args.kind c.args.name.now) c.self.view_is

pub returns : goal.returns
returns c =
    c.standing.ensures ∙ ap (λ rs. slice_get (changed_by rs c.self.inside.base) c.in-Some.place) c.deref.ensures.value
    ∙ sym (found c.self.inside.base c.self.inside.gone c.self.inside.changed c.self.inside.replaced.items c.self.invariant
    c.args.kind c.args.name.now c.in-Some.place (sym c.in-Some.ensures))
    ∙ ap (find_decl c.args.kind c.args.name.now) c.self.view_is
