use Rattle.std.proofs.Common.{map, ◌∙◌}
use Rattle.cdi_resolve.proofs.SeenLemmas.{choice_rests_on_seen, chosen-enough}
use Rattle.cdi_resolve.proofs.choice.choose_from.Goals as goal

pub returns-clause-choice : goal.returns-clause-choice
returns-clause-choice c = λ beans enough.
    (rw c.required-asked_for.ensures at c.in_ok-choice.ensures)
    ∙ chosen-enough c.args.decls.now c.args.bean_type c.args.quals.now (map (λ bean. bean.now) c.args.candidates.now) beans enough

pub returns-in_err-choice-clause-seen : goal.returns-in_err-choice-clause-seen
returns-in_err-choice-clause-seen c = choice_rests_on_seen

pub returns-clause-seen : goal.returns-clause-seen
returns-clause-seen c = choice_rests_on_seen
