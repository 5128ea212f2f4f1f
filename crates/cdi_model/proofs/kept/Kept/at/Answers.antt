use Rattle.cdi_model.proofs.Common.{◌≤◌, length, slice_get, arith, ap, sym, ◌∙◌, changed_by, kept}
use Rattle.std.proofs.lemmas.Option.{slice_get_past}
use Rattle.cdi_model.proofs.KeptLemmas.{get_kept}
use Rattle.cdi_model.proofs.StandingLemmas.{few}
use Rattle.cdi_model.proofs.kept.Kept.at.Goals as goal

pub returns-in_default : goal.returns-in_default
returns-in_default c =
    let most = few c.self.inside.base c.self.inside.gone c.self.inside.changed c.self.inside.replaced.items c.self.invariant in
    let past : length (kept c.self.inside.gone (changed_by c.self.inside.replaced.items c.self.inside.base)) ≤ c.args.position =
    omega (arith, most, c.in_default.ensures.none) in
    sym (slice_get_past (kept c.self.inside.gone (changed_by c.self.inside.replaced.items c.self.inside.base)) c.args.position past)
    ∙ ap (λ ds. slice_get ds c.args.position) c.self.view_is

pub returns : goal.returns
returns c =
    c.standing.ensures ∙ ap (λ rs. slice_get (changed_by rs c.self.inside.base) c.in-Some.place) c.deref.ensures.value
    ∙ sym (get_kept c.self.inside.gone (changed_by c.self.inside.replaced.items c.self.inside.base) c.in-Some.place c.args.position
    c.in-Some.ensures.found.unmarked c.in-Some.ensures.found.before)
    ∙ ap (λ ds. slice_get ds c.args.position) c.self.view_is
