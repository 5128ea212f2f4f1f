use Rattle.cdi_validate.proofs.Common.{◌≡◌, sym, ◌∙◌, true, false, is_nameless, eq-eqb}
use Rattle.std.proofs.lemmas.Bool.{ne_eqb}
use Rattle.cdi_validate.proofs.CountLemmas.{all-from, nameless-by}
use Rattle.cdi_validate.proofs.names.are_nameless.Goals as goal

pub returns-then-count_of_names_in-ne0 : goal.returns-then-count_of_names_in-ne0
returns-then-count_of_names_in-ne0 g c =
    let ds = g.V.View.list c.args.view.now in
    let item = c.decl-item.result in
    let i = c.loop-decl.decl-index in
    let count = c.count_of_names_in.result in
    let named : is_nameless ds item.now ≡ false =
    nameless-by ds item.now c.records_of_decl.result.now count c.records_of_decl.ensures c.count_of_names_in.ensures
    ∙ ne_eqb count 0 c.if-count_of_names_in-ne0.true in
    sym (all-from (is_nameless ds) (λ d. d.now) c.args.decls.now i item false c.loop-decl-test.true c.decl-item.is named)
    ∙ c.loop-decl.invariant

pub loop-decl-preserved : goal.loop-decl-preserved
loop-decl-preserved g c =
    let ds = g.V.View.list c.args.view.now in
    let item = c.decl-item.result in
    let i = c.loop-decl.decl-index in
    let count = c.count_of_names_in.result in
    let nameless : is_nameless ds item.now ≡ true =
    nameless-by ds item.now c.records_of_decl.result.now count c.records_of_decl.ensures c.count_of_names_in.ensures
    ∙ eq-eqb count 0 c.if-count_of_names_in-ne0.false in
    sym (all-from (is_nameless ds) (λ d. d.now) c.args.decls.now i item true c.loop-decl-test.true c.decl-item.is nameless)
    ∙ c.loop-decl.invariant
