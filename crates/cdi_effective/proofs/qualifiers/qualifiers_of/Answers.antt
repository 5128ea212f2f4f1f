use Rattle.cdi_effective.proofs.Common.{◌≡◌, [], length, sym, ap, ◌∙◌, uses_in, arith, common_steps, qualifiers_of, IfOk-weaker}
use Rattle.base_lists.proofs.Places.{empty-from_length}
use Rattle.cdi_effective.proofs.QualifierLemmas.{built-in-order}
use Rattle.cdi_effective.proofs.qualifiers.qualifiers_of.Goals as goal

pub returns-then-is_empty-2 : goal.returns-then-is_empty-2
returns-then-is_empty-2 c =
    let none : length c.args.declared.now ≡ 0 = grind (arith, common_steps) in
    let no_last : length c.args.last.now ≡ 0 = grind (arith, common_steps) in
    IfOk-weaker c.built_in.result _ _ (λ quals is. is ∙ built-in-order c.args.name
    ∙ ap (λ list. qualifiers_of (uses_in list) [] c.args.name) (sym (empty-from_length c.args.declared.now none))
    ∙ ap (λ list. qualifiers_of (uses_in c.args.declared.now) list c.args.name) (sym (empty-from_length c.args.last.now no_last)))
    c.built_in.ensures
