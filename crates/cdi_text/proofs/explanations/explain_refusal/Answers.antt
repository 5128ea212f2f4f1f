use Rattle.cdi_text.proofs.Common.{◌≡◌, ◌≤◌, arith, Some, None, sym, ap, ◌∙◌, subst, length, true≢false, ok_or, table_view, Refusal}
use Rattle.cdi_text.proofs.Common.{NotToml, tree_of}
use Rattle.std.specs.Result.{result_err}
use Rattle.cdi_text.proofs.ReadingLemmas.{no_tree, of_no_tree, of_tree, tree_found}
use Rattle.cdi_text.specs.Places.{IsLineOf}
use Rattle.cdi_text.proofs.explanations.explain_refusal.Goals as goal

pub returns-in-Ok-clause-refusal : goal.returns-in-Ok-clause-refusal
returns-in-Ok-clause-refusal c =
    let text = c.args.text.now in
    let ms = table_view c.in-Ok.table in
    let tree : tree_of text ≡ Some ms = tree_found text ms c.in-Ok.ensures.ok.0 c.in-Ok.ensures.ok.1 in
    rw (of_tree text ms c.if-text-gt-TEXT_LIMIT.false (ap (λ o. ok_or o NotToml) tree)) c.explain_table.ensures.refusal

pub returns-in-Ok-clause-path : goal.returns-in-Ok-clause-path
returns-in-Ok-clause-path c = c.explain_table.ensures.path
    (tree_found c.args.text.now (table_view c.in-Ok.table) c.in-Ok.ensures.ok.0 c.in-Ok.ensures.ok.1)

pub returns-in-Some-clause-refusal : goal.returns-in-Some-clause-refusal
returns-in-Some-clause-refusal c =
    let text = c.args.text.now in
    let none : tree_of text ≡ None = no_tree text (c.in-Err.ensures.refused (λ m. true≢false (c.in-Some.ensures.none.1 m))) in
    ap Some c.of_whole-in-Some.ensures.refusal ∙ sym (ap result_err (of_no_tree text c.if-text-gt-TEXT_LIMIT.false none))

pub returns-in-Some-clause-line : goal.returns-in-Some-clause-line
returns-in-Some-clause-line c =
    let told = c.of_whole-in-Some.result in
    let P : Refusal → Type 0 = λ r. IsLineOf r c.args.text.now told.path.0.items told.line in
    let within : c.in-Some.span.start ≤ length c.args.text.now = omega (arith, c.in-Err.ensures.span, c.in-Some.ensures.range) in
    subst P (sym c.of_whole-in-Some.ensures.refusal) (
      c.in-Some.span.start,
      within,
      c.of_whole-in-Some.ensures.line ∙ ap Some c.line_at-line.ensures,
    )
