use Rattle.cdi_live.proofs.Common.{◌≡◌, ◌&&◌, sym, ap, ◌∙◌, list_any, bytes_eq, Some, asks_for, ChoiceKey, is_wanted, same_quals}
use Rattle.cdi_live.proofs.Common.{if◌then◌else◌, answer}
use Rattle.cdi_index.specs.declared.asked.Question.TheVariants as questions
use Rattle.cdi_live.proofs.AskedLemmas.{wanted-is}
use Rattle.cdi_live.proofs.choices.keep.Goals as goal

pub returns-then-not-is_asked-clause-ok : goal.returns-then-not-is_asked-clause-ok
returns-then-not-is_asked-clause-ok c t us =
    let ds = c.args.index.now.decls in
    let class = c.args.bean_type in
    let uses = c.args.uses.now in
    let is : is_wanted ds (ChoiceKey class uses) ≡ c.is_asked.result =
    wanted-is class uses ds ∙ ap (λ vs. list_any (asks_for questions.Choice class vs) ds) (sym c.as_slice.ensures.value)
    ∙ sym c.is_asked.ensures in
    sym (ap (λ w. if w && (bytes_eq class t && same_quals uses us) then Some c.args.choice.now else answer same_quals c.args.choices.now t
    us)
    (is ∙ c.if-not-is_asked.true))

pub returns-clause-ok : goal.returns-clause-ok
returns-clause-ok c t us =
    let ds = c.args.index.now.decls in
    let class = c.args.bean_type in
    let uses = c.args.uses.now in
    let old = answer same_quals c.args.choices.now t us in
    let is : is_wanted ds (ChoiceKey class uses) ≡ c.is_asked.result =
    wanted-is class uses ds ∙ ap (λ vs. list_any (asks_for questions.Choice class vs) ds) (sym c.as_slice.ensures.value)
    ∙ sym c.is_asked.ensures in
    c.in_ok-keep.ensures.ok t us
    ∙ ap (λ vs. if bytes_eq class t && same_quals vs us then Some c.in_ok-answer.answer else old) c.in_ok-part.ensures
    ∙ ap (λ a. if bytes_eq class t && same_quals uses us then Some a else old) c.in_ok-answer.ensures
    ∙ sym (ap (λ w. if w && (bytes_eq class t && same_quals uses us) then Some c.args.choice.now else old) (is ∙ c.if-not-is_asked.false))
