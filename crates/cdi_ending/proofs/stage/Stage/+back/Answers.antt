use Rattle.std.proofs.Common.{rules, ◌≡◌, ◌∙◌, ◌≤◌, ◌+◌, length, None, ap, arith}
use Rattle.cdi_bodies.specs.declared.act.Frame.{Frame}
use Rattle.cdi_legal.specs.Ends.{Ends}
use Rattle.cdi_ending.proofs.{Before.some_of, Shrinking.Shrinks-trans}
use Rattle.cdi_ending.proofs.Proceeding.{ends_at_last, pauses_at, pause_goes_on, one_answer_more}
use Rattle.cdi_ending.proofs.stage.Stage.+back.Goals as goal

pub frame_back-returns-clause-legal : goal.frame_back-returns-clause-legal
frame_back-returns-clause-legal g t c =
    Ends.framed_back _ _ _ _ _ _ _ _ c.in_ok-note_beginning.ensures.ok c.in_ok-ask_back.ensures.legal c.in_ok-note_end.ensures.ok

pub frame_back-returns-clause-steady : goal.frame_back-returns-clause-steady
frame_back-returns-clause-steady g t c =
    rw c.in_ok-note_end.ensures.ok (rw c.in_ok-note_beginning.ensures.ok at c.in_ok-ask_back.ensures.steady)

pub proceed_back-returns-clause-steady : goal.proceed_back-returns-clause-steady
proceed_back-returns-clause-steady g t c =
    rw c.in_ok-answer.ensures.ok (rw c.in_ok-note_proceeding.ensures.ok at c.in_ok-invoke_back.ensures.steady)

pub ask_back-returns-in_ok-ask_on-2-clause-legal : goal.ask_back-returns-in_ok-ask_on-2-clause-legal
ask_back-returns-in_ok-ask_on-2-clause-legal g t c =
    let more : length c.proceed_back.new.shared.shown.answers.items ≡ length c.ask_on.new.shared.shown.answers.items + 1 =
    ap (λ (f : Frame). length f.answers.items) c.in_ok-proceed_back.ensures.shown
    ∙ one_answer_more c.proceed_back.new.shared.outcome c.ask_on.new.shared.shown in
    let fresh : length c.begin.new.self.shown.answers.items ≡ 0 = ap (λ (f : Frame). length f.answers.items) c.begin.ensures.shown in
    let pauses = pauses_at _ _ _ _ _ _ _ _ _ c.if-branch.true c.in_ok-ask_on.ensures.halts in
    let ends = ends_at_last _ _ _ _ _ _ _ _ c.in_ok-ask_on-2.ensures.halts c.args.link in
    pause_goes_on _ _ _ _ _ _ _ _ _ _ _ _ _ fresh pauses c.in_ok-proceed_back.ensures.legal more ends

pub ask_back-returns-in_ok-ask_on-2-clause-steady : goal.ask_back-returns-in_ok-ask_on-2-clause-steady
ask_back-returns-in_ok-ask_on-2-clause-steady g t c =
    λ floor.
    Shrinks-trans floor _ _ _ (c.in_ok-ask_on.ensures.steady floor)
    (Shrinks-trans floor _ _ _ (c.in_ok-proceed_back.ensures.steady floor) (c.in_ok-ask_on-2.ensures.steady floor))

pub invoke_back-returns-then-link-len-clause-legal : goal.invoke_back-returns-then-link-len-clause-legal
invoke_back-returns-then-link-len-clause-legal g t c =
    Ends.linked_back _ _ _ _ _ _ _ _ c.requires.managed c.link.ensures c.in_ok-frame_back.ensures.legal

pub invoke_back-returns-then-is_none-clause-legal : goal.invoke_back-returns-then-is_none-clause-legal
invoke_back-returns-then-is_none-clause-legal g t c =
    let all : length c.args.leaving.now.managed.now.pre.chain ≤ c.args.link = grind arith in
    let none : c.args.leaving.now.managed.now.pre.part ≡ None = search rules in
    Ends.bare_back _ _ _ _ _ c.requires.managed all none

pub invoke_back-returns-clause-legal : goal.invoke_back-returns-clause-legal
invoke_back-returns-clause-legal g t c =
    let all : length c.args.leaving.now.managed.now.pre.chain ≤ c.args.link = grind arith in
    let some = some_of c.args.leaving.now.managed.now.pre.part (search rules) in
    Ends.targeted_back _ _ some.part _ _ _ _ _ c.requires.managed all some.is c.in_ok-frame_back-2.ensures.legal
