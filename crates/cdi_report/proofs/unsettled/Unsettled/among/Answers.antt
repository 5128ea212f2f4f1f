use Rattle.cdi_report.proofs.Common.{sym, ◌∙◌, ◌||◌, same_key, key_of, list_any, IfOk-weaker}
use Rattle.cdi_report.proofs.PositionLemmas.{decls-marked, each-open, some-open}
use Rattle.cdi_report.proofs.unsettled.Unsettled.among.Goals as goal

pub returns-then-self : goal.returns-then-self
returns-then-self c =
    IfOk-weaker c.all_decls.result _ _ (λ list are. are ∙ sym (each-open c.args.self.now c.args.decls.now c.if-self.true))
    c.all_decls.ensures

pub returns : goal.returns
returns c =
    let u = c.args.self.now in
    let ds = c.args.decls.now in
    let keys = c.as_slice.result.now in
    let faulty = c.as_slice-2.result.now in
    IfOk-weaker c.decls_at.result _ _ (λ list are. are
    ∙ decls-marked ds (λ d. list_any (same_key (key_of d)) keys || list_any (same_key (key_of d)) faulty) c.positions_of-positions.result
    c.positions_of-positions.ensures
    ∙ some-open u ds keys faulty c.if-self.false c.as_slice.ensures.keys c.as_slice-2.ensures.keys) c.decls_at.ensures
