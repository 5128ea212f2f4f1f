use Rattle.cdi_script.proofs.Common.{◌≡◌, refl, take, [], ◌++◌, subst, sym, ◌∙◌, ap, on_ok_weaker, Err, no_items, Memory, Write, intake_on}
use Rattle.cdi_script.proofs.Common.{Feeds, FeedsBeforeMemory, FeedsPart, SettlesPart}
use Rattle.std.proofs.lemmas.Result.{IfErr-at_err}
use Rattle.cdi_script.proofs.Feeding.{feeds_more, feeds_part_more, feeds_memory_more, feeds_rest}
use Rattle.cdi_script.proofs.script.feed.Goals as goal

pub loop-rest-preserved : goal.loop-rest-preserved
loop-rest-preserved g c =
    let now = c.loop-rest.invariant.0 in
    let taken = take c.in-Ok.n c.loop-rest.rest.now in (
      (
        now.0 ++ taken,
        feeds_rest now.0 c.in-Ok.n c.loop-rest.rest.now c.args.chunk.now c.split_at.result.1.now now.1 c.split_at.ensures.back,
        feeds_more g.W.Write.contents (intake_on c.args.intake.now c.args.container.now)
            (intake_on c.loop-rest.intake c.loop-rest.container) (intake_on c.take_some.new.intake c.take_some.new.container)
            c.args.writer.now c.loop-rest.writer c.take_some.new.writer now.0 taken now.2 c.in-Ok.ensures.ok,
      ),
      c.in-Ok.ensures.still ∙ c.loop-rest.invariant.1,
    )

pub returns-in-Err-clause-memory : goal.returns-in-Err-clause-memory
returns-in-Err-clause-memory g c = λ e.
    let now = c.loop-rest.invariant.0 in
    let old = intake_on c.args.intake.now c.args.container.now in
    let new = intake_on c.take_some.new.intake c.take_some.new.container in
    subst (FeedsBeforeMemory g.W.Write.contents old new c.args.writer.now c.take_some.new.writer) (sym now.1)
    (feeds_memory_more g.W.Write.contents old (intake_on c.loop-rest.intake c.loop-rest.container) new c.args.writer.now
    c.loop-rest.writer c.take_some.new.writer now.0 c.loop-rest.rest.now now.2
    (c.in-Err.ensures.memory (let is : c.in-Err.fault ≡ Memory = cc in ap Err is)))

pub returns-in-Err-clause-write : goal.returns-in-Err-clause-write
returns-in-Err-clause-write g c = λ e.
    let now = c.loop-rest.invariant.0 in
    let old = intake_on c.args.intake.now c.args.container.now in
    let new = intake_on c.take_some.new.intake c.take_some.new.container in
    subst (FeedsPart g.W.Write.contents old new c.args.writer.now c.take_some.new.writer) (sym now.1)
    (feeds_part_more g.W.Write.contents old (intake_on c.loop-rest.intake c.loop-rest.container) new c.args.writer.now
    c.loop-rest.writer c.take_some.new.writer now.0 c.loop-rest.rest.now now.2
    (c.in-Err.ensures.write (let is : c.in-Err.fault ≡ Write = cc in ap Err is)))

pub returns-clause-ok : goal.returns-clause-ok
returns-clause-ok g c =
    let now = c.loop-rest.invariant.0 in
    let none : c.loop-rest.rest.now ≡ [] = no_items _ _ refl (sym c.is_empty.ensures ∙ c.loop-rest-test.false) in
    let old = intake_on c.args.intake.now c.args.container.now in
    let new = intake_on c.settle.new.intake c.loop-rest.container in
    on_ok_weaker c.settle.result (λ f. subst (Feeds g.W.Write.contents old new c.args.writer.now c.settle.new.writer)
    (sym (now.1 ∙ ap (λ l. now.0 ++ l) none))
    (feeds_more g.W.Write.contents old (intake_on c.loop-rest.intake c.loop-rest.container) new c.args.writer.now c.loop-rest.writer
    c.settle.new.writer now.0 [] now.2 (f c.loop-rest.container))) c.settle.ensures.ok

pub returns-clause-write : goal.returns-clause-write
returns-clause-write g c = λ e.
    let now = c.loop-rest.invariant.0 in
    let none : c.loop-rest.rest.now ≡ [] = no_items _ _ refl (sym c.is_empty.ensures ∙ c.loop-rest-test.false) in
    let old = intake_on c.args.intake.now c.args.container.now in
    let new = intake_on c.settle.new.intake c.loop-rest.container in
    subst (FeedsPart g.W.Write.contents old new c.args.writer.now c.settle.new.writer) (sym (now.1 ∙ ap (λ l. now.0 ++ l) none))
    (feeds_part_more g.W.Write.contents old (intake_on c.loop-rest.intake c.loop-rest.container) new c.args.writer.now c.loop-rest.writer
    c.settle.new.writer now.0 [] now.2
    (IfErr-at_err (λ _. SettlesPart g.W.Write.contents c.loop-rest.intake c.settle.new.intake c.loop-rest.writer c.settle.new.writer) e
    c.settle.ensures.part c.loop-rest.container))
