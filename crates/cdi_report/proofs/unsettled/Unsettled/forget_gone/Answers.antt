use Rattle.cdi_report.proofs.Common.{refl, is_present}
use Rattle.std.proofs.{Common.rules, lemmas.Fn.filter_same}
use Rattle.cdi_report.proofs.ForgottenLemmas.{left-are-present, settled-forgotten}
use Rattle.cdi_report.proofs.unsettled.Unsettled.forget_gone.Goals as goal

pub returns-then-are_many-clause-gone : goal.returns-then-are_many-clause-gone
returns-then-are_many-clause-gone c = λ many k has.
    let ds = c.args.decls.now in
    let old = c.args.self.now in
    left-are-present ds old.keys.keys c.retain.new.self.keys k
    (filter_same _ (is_present ds) _ (λ x b f call. search rules) _ _ c.retain.ensures.filtered) has

pub returns-then-are_many-clause-settled : goal.returns-then-are_many-clause-settled
returns-then-are_many-clause-settled c =
    let ds = c.args.decls.now in
    let old = c.args.self.now in
    settled-forgotten ds old (record old { keys = c.retain.new.self }) refl refl refl
    (filter_same _ (is_present ds) _ (λ x b f call. search rules) _ _ c.retain.ensures.filtered)
