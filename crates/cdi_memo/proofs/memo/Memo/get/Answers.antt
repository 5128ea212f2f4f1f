use Rattle.std.proofs.Common.{sym, ap, ◌∙◌}
use Rattle.cdi_memo.proofs.ChangeLemmas.{answer_at, answer-in}
use Rattle.cdi_memo.specs.Answers.{answer}
use Rattle.cdi_memo.proofs.memo.Memo.get.Goals as goal

pub returns-in-Some : goal.returns-in-Some
returns-in-Some g c =
    let eq = g.Q.PartialEq.eq in
    c.get-in-Some.ensures.value ∙ ap (λ o. answer_at eq o c.args.part.now) c.in-Some.ensures.value
    ∙ sym (answer-in eq c.self.inside.answers.entries c.args.name.now c.args.part.now)
    ∙ ap (λ m. answer eq m c.args.name.now c.args.part.now) c.self.view_is

pub returns-in-None : goal.returns-in-None
returns-in-None g c =
    let eq = g.Q.PartialEq.eq in
    ap (λ o. answer_at eq o c.args.part.now) c.in-None.ensures.value
    ∙ sym (answer-in eq c.self.inside.answers.entries c.args.name.now c.args.part.now)
    ∙ ap (λ m. answer eq m c.args.name.now c.args.part.now) c.self.view_is
