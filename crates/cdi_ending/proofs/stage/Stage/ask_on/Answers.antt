use Rattle.std.proofs.Common.{◌≡◌, ◌<◌, ◌+◌, ◌&&◌, length, Some, None, arith, true, refl}
use Rattle.std.proofs.lemmas.Grind.{common_steps}
use Rattle.cdi_legal.specs.{Acts.ending, Ends.Ends}
use Rattle.cdi_ending.proofs.{Proceeding.twice_ends, Shrinking.Shrinks-trans}
use Rattle.cdi_ending.proofs.stage.Stage.ask_on.Goals.{then-len-eq8-via-then-len-eq8, then-len-eq8-via-else-len-eq8+then-is_second}
use Rattle.cdi_ending.specs.Back.{is_proceeding}
use Rattle.cdi_ending.proofs.stage.Stage.ask_on.Goals as goal

pub returns-in-Some-clause-halts : goal.returns-in-Some-clause-halts
returns-in-Some-clause-halts g c =
    let q : ending c.ask-act.result ≡ Some c.in-Some.outcome = grind arith in
    λ k.
    c.asking.invariant.rest k _ _
    (Ends.ended_back _ _ _ _ c.ask-act.result _ _
    (record { part = c.args.part.now; runs = c.requires.back.runs; permitted = c.ask-act.ensures }) q)

pub returns-then-len-eq8-clause-halts : goal.returns-then-len-eq8-clause-halts
returns-then-len-eq8-clause-halts g c =
    let none : ending c.ask-act.result ≡ None = grind arith in
    λ k.
    c.asking.invariant.rest k _ _
    (elim c.then-len-eq8.branch [
      | then-len-eq8-via-then-len-eq8 w ↦
          let full : length c.asking.shared.shown.answers.items ≡ 8 = grind (arith, common_steps) in
          rw full
          (Ends.stopped_back _ _ _ c.ask-act.result _
          (record { part = c.args.part.now; runs = c.requires.back.runs; permitted = c.ask-act.ensures }) none)
      | then-len-eq8-via-else-len-eq8+then-is_second w ↦
          let e : (is_proceeding c.ask-act.result && c.args.has_proceeded) ≡ true = grind arith in
          twice_ends _ _ _ _ _ c.ask-act.result _
          (record { part = c.args.part.now; runs = c.requires.back.runs; permitted = c.ask-act.ensures }) e
    ])

pub asking-preserved : goal.asking-preserved
asking-preserved g c =
    let i = c.asking.invariant in
    let more : length c.push.new.self.items ≡ length c.asking.shared.shown.answers.items + 1 = grind (arith, common_steps) in
    let room : length c.asking.shared.shown.answers.items < 8 = grind (arith, common_steps) in
    record {
      calls = i.calls;
      fires = i.fires;
      few = omega arith;
      steady = λ floor. Shrinks-trans floor _ _ _ (i.steady floor) (c.in_ok-answer.ensures.steady floor);
      spent = omega (arith, i.spent, c.in_ok-answer.ensures.room, more);
      rest = λ k o m x.
          i.rest k o m
          (Ends.touched_back _ k _ c.args.id.number _ c.ask-act.result _ o _ _ m
          (record { part = c.args.part.now; runs = c.requires.back.runs; permitted = c.ask-act.ensures }) room refl
          c.in_ok-answer.ensures.legal (rw more at x));
    }
