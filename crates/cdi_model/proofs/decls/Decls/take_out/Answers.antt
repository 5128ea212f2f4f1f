use Rattle.cdi_model.proofs.Common.{◌++◌, is_some, sym, subst, ap, ◌∙◌, find_decl, remove_from, AreListed}
use Rattle.cdi_model.proofs.EditLemmas.{remove_from-absent}
use Rattle.cdi_model.proofs.JoinedLemmas.{removed-first, removed-second, found-joined_first, found-joined_second}
use Rattle.cdi_model.proofs.ListedLemmas.{listed-removed}
use Rattle.cdi_model.proofs.decls.Decls.take_out.Goals as goal

pub invariant_of-self : goal.invariant_of-self
invariant_of-self c =
    subst AreListed
    (removed-first c.args.kind c.args.name.now c.self.inside.kept c.self.inside.added (sym c.remove.ensures.found ∙ c.if-remove.true)
    ∙ ap (λ l. l ++ c.self.inside.added) (sym c.remove.ensures.removed))
    (listed-removed c.args.kind c.args.name.now (c.self.inside.kept ++ c.self.inside.added) c.self.invariant)

pub returns-then-remove-clause-found : goal.returns-then-remove-clause-found
returns-then-remove-clause-found c =
    sym (found-joined_first c.args.kind c.args.name.now c.self.inside.kept c.self.inside.added
    (sym c.remove.ensures.found ∙ c.if-remove.true))
    ∙ ap (λ ds. is_some (find_decl c.args.kind c.args.name.now ds)) c.self.view_is

pub returns-then-remove-clause-removed : goal.returns-then-remove-clause-removed
returns-then-remove-clause-removed c =
    ap (λ l. l ++ c.self.inside.added) c.remove.ensures.removed
    ∙ sym (removed-first c.args.kind c.args.name.now c.self.inside.kept c.self.inside.added (sym c.remove.ensures.found ∙ c.if-remove.true))
    ∙ ap (remove_from c.args.kind c.args.name.now) c.self.view_is

pub invariant_of-self-2 : goal.invariant_of-self-2
invariant_of-self-2 c =
    let absent = sym c.remove.ensures.found ∙ c.if-remove.false in
    let same = c.remove.ensures.removed ∙ remove_from-absent c.args.kind c.args.name.now c.self.inside.kept absent in
    subst AreListed
    (removed-second c.args.kind c.args.name.now c.self.inside.kept c.self.inside.added absent
    ∙ (λ i. (sym same) i ++ (sym c.remove-2.ensures.removed) i))
    (listed-removed c.args.kind c.args.name.now (c.self.inside.kept ++ c.self.inside.added) c.self.invariant)

pub returns-clause-found : goal.returns-clause-found
returns-clause-found c =
    let absent = sym c.remove.ensures.found ∙ c.if-remove.false in
    c.remove-2.ensures.found ∙ sym (found-joined_second c.args.kind c.args.name.now c.self.inside.kept c.self.inside.added absent)
    ∙ ap (λ ds. is_some (find_decl c.args.kind c.args.name.now ds)) c.self.view_is

pub returns-clause-removed : goal.returns-clause-removed
returns-clause-removed c =
    let absent = sym c.remove.ensures.found ∙ c.if-remove.false in
    let same = c.remove.ensures.removed ∙ remove_from-absent c.args.kind c.args.name.now c.self.inside.kept absent in
    (λ i. same i ++ c.remove-2.ensures.removed i)
    ∙ sym (removed-second c.args.kind c.args.name.now c.self.inside.kept c.self.inside.added absent)
    ∙ ap (remove_from c.args.kind c.args.name.now) c.self.view_is
