use Rattle.cdi_container.proofs.Common.{◌≡◌, subst, sym, ◌∷◌, length, ap, ◌∙◌, ◌+◌, changes_of_all, drafted_all, first_refusal, SaysReason}
use Rattle.cdi_container.proofs.Common.{refused_at, arith, into_iter_items, asked_by}
use Rattle.cdi_container.proofs.BatchLemmas.{first_accepted, first_refused, left_by_first}
use Rattle.cdi_container.proofs.batch.make_all.Goals as goal

pub loop-edit-preserved : goal.loop-edit-preserved
loop-edit-preserved c =
    let at = c.loop-edit in
    let edit = c.in-Some.edit in
    let rest = into_iter_items c.next.new.self in
    let steps : into_iter_items at.edit-iterator ≡ edit ∷ rest = c.in-Some.ensures.steps.0 in
    record {
      left = at.invariant.left ∙ ap (λ es. drafted_all at.draft (changes_of_all es)) steps
          ∙ left_by_first at.draft c.make.new.draft edit rest c.in-Ok.ensures.ok;
      refused = at.invariant.refused ∙ ap (λ es. first_refusal (at.number + 1) at.draft.decls (asked_by es)) steps
          ∙ first_accepted (at.number + 1) at.draft.decls c.make.new.draft.decls edit rest c.in-Ok.field-0 c.in-Ok.ensures.answer
          (ap (λ d. d.decls) c.in-Ok.ensures.ok);
      short = c.in-Ok.ensures.short;
      count = let was = at.invariant.count in let one = ap length steps in omega arith;
      length_is = let was = at.invariant.length_is in let gone = c.in-Some.ensures.steps.1 in let one = ap length steps in omega arith;
    }

pub returns-in-Err-clause-answer : goal.returns-in-Err-clause-answer
returns-in-Err-clause-answer c =
    let at = c.loop-edit in
    let edit = c.in-Some.edit in
    let rest = into_iter_items c.next.new.self in
    let steps : into_iter_items at.edit-iterator ≡ edit ∷ rest = c.in-Some.ensures.steps.0 in
    let reason = first_refusal 1 c.args.draft.now.decls (asked_by c.args.edits.items) in
    let same = at.invariant.refused ∙ ap (λ es. first_refusal (at.number + 1) at.draft.decls (asked_by es)) steps in
    subst (λ r. SaysReason r reason) (sym c.of.ensures)
    (subst (SaysReason (refused_at (at.number + 1) c.in-Err.error)) (sym same)
    (first_refused (at.number + 1) at.draft.decls edit rest c.in-Err.error c.in-Err.ensures.answer))
