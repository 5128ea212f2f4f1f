use Rattle.cdi_model.proofs.Common.{◌<◌, Some, None, true, false, length, is_some, slice_set, arith, subst, ap, sym, ◌∙◌, kind_of}
use Rattle.cdi_model.proofs.Common.{name_of_decl, find_decl, put_in, changed_by, kept, AreKept}
use Rattle.std.proofs.lemmas.List.{get_or-set_same}
use Rattle.cdi_model.proofs.ReplacedLemmas.{marked-set}
use Rattle.cdi_model.proofs.StandingLemmas.{absent, is_found, replaced, same-unmarked, stands, still-kept}
use Rattle.cdi_model.proofs.kept.Kept.replace.Goals as goal

pub returns-in_default-clause-found : goal.returns-in_default-clause-found
returns-in_default-clause-found c =
    let d = c.args.decl.now.value in
    sym (ap is_some (absent c.self.inside.base c.self.inside.gone c.self.inside.changed c.self.inside.replaced.items c.self.invariant
    (kind_of d) (name_of_decl d) (same-unmarked c.kind.result (kind_of d) c.name.result.now
    (name_of_decl d) c.self.inside.base c.self.inside.gone
    None (c.kind.ensures ∙ ap kind_of c.deref.ensures) (c.name.ensures ∙ ap name_of_decl c.deref-2.ensures) c.in_default.ensures)))
    ∙ ap (λ ds. is_some (find_decl (kind_of d) (name_of_decl d) ds)) c.self.view_is

pub invariant_of-self-2 : goal.invariant_of-self-2
invariant_of-self-2 c =
    let d = c.args.decl.now.value in
    let place = same-unmarked c.kind.result (kind_of d) c.name.result.now (name_of_decl d) c.self.inside.base c.self.inside.gone
    (Some c.in-Some.place) (c.kind.ensures ∙ ap kind_of c.deref.ensures)
    (c.name.ensures ∙ ap name_of_decl c.deref-2.ensures) c.in-Some.ensures in
    let s = stands c.self.inside.base c.self.inside.gone c.self.inside.changed c.self.inside.replaced.items c.self.invariant
    (kind_of d) (name_of_decl d) c.in-Some.place place in
    let within : c.in-Some.place < length c.self.inside.changed =
    omega (arith, s.within, c.self.invariant.gone_size, c.self.invariant.changed_size) in
    subst (λ marks. AreKept c.self.inside.base c.self.inside.gone marks c.put_at.new.replaced.items) (sym c.insert.ensures.set)
    (still-kept c.self.inside.base c.self.inside.gone c.self.inside.changed c.self.inside.replaced.items c.self.invariant
    d c.in-Some.place c.put_at.new.replaced.items place
    (c.in_ok-put_at.ensures.ok c.self.inside.base
    ∙ ap (slice_set (changed_by c.self.inside.replaced.items c.self.inside.base) c.in-Some.place) c.in_ok-clone.ensures.cases)
    (c.in_ok-put_at.ensures.marked (slice_set c.self.inside.changed c.in-Some.place true)
    (marked-set c.self.inside.changed c.self.inside.replaced.items c.in-Some.place c.self.invariant.marked)
    (get_or-set_same c.self.inside.changed c.in-Some.place true false within)))

pub returns-clause-found : goal.returns-clause-found
returns-clause-found c =
    let d = c.args.decl.now.value in
    sym (is_found c.self.inside.base c.self.inside.gone c.self.inside.changed c.self.inside.replaced.items c.self.invariant
    (kind_of d) (name_of_decl d) c.in-Some.place
    (same-unmarked c.kind.result (kind_of d) c.name.result.now (name_of_decl d) c.self.inside.base c.self.inside.gone
    (Some c.in-Some.place) (c.kind.ensures ∙ ap kind_of c.deref.ensures)
    (c.name.ensures ∙ ap name_of_decl c.deref-2.ensures) c.in-Some.ensures))
    ∙ ap (λ ds. is_some (find_decl (kind_of d) (name_of_decl d) ds)) c.self.view_is

pub returns-clause-ok : goal.returns-clause-ok
returns-clause-ok c =
    let d = c.args.decl.now.value in
    ap (kept c.self.inside.gone) (c.in_ok-put_at.ensures.ok c.self.inside.base
    ∙ ap (slice_set (changed_by c.self.inside.replaced.items c.self.inside.base) c.in-Some.place) c.in_ok-clone.ensures.cases)
    ∙ replaced c.self.inside.base c.self.inside.gone c.self.inside.changed c.self.inside.replaced.items c.self.invariant d c.in-Some.place
    (same-unmarked c.kind.result (kind_of d) c.name.result.now (name_of_decl d) c.self.inside.base c.self.inside.gone
    (Some c.in-Some.place) (c.kind.ensures ∙ ap kind_of c.deref.ensures)
    (c.name.ensures ∙ ap name_of_decl c.deref-2.ensures) c.in-Some.ensures)
    ∙ ap (λ ds. put_in ds d) c.self.view_is
