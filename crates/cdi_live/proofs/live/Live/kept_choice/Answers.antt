use Rattle.cdi_live.proofs.Common.{subst, beans, IfSome, option_copied, State, ◌≡◌, chosen}
use Rattle.cdi_live.proofs.LiveLemmas.{right-lent}
use Rattle.cdi_live.proofs.live.Live.kept_choice.Goals as goal

pub returns-clause-choice : goal.returns-clause-choice
returns-clause-choice c =
    let t = c.args.bean_type.now in
    let us = c.args.quals.now in
    subst (λ (s : State). IfSome (option_copied c.get.result) (λ choice. choice ≡ chosen s.decls (beans s.decls) t us)) c.self.view_is
    (right-lent c.self.inside.index.decls c.self.inside.memos.choices t us c.required_of-uses.result.now c.self.invariant.kept.choices
    c.required_of-uses.ensures
    (option_copied c.get.result) c.get.ensures)
