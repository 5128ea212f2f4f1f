use Rattle.cdi_script.proofs.Common.{◌≡◌, ◌∙◌, refl, ap, arith, subst, take, Err, has_failed, reader_of, writer_of, Memory, Write}
use Rattle.cdi_script.proofs.Common.{intake_on, setting_from, Feeds, FeedsBeforeMemory, FeedsPart, EndsBeforeMemory, EndsPart}
use Rattle.cdi_script.proofs.Going.{goes_first, goes_on, feeds_to_memory, feeds_to_write, ends_in_memory, ends_in_write}
use Rattle.cdi_script.proofs.script.read_all.Goals as goal

pub loop-fault-init : goal.loop-fault-init
loop-fault-init g c = (
  goes_first g.R.Read.remaining g.W.Write.contents 16777216 65536 (setting_from c.args.intake.now.runner.quiet c.args.container.now)
      (reader_of c.args.console.now)
      (writer_of c.args.console.now) c.args.intake.now
      c.requires.fresh refl c.requires.reader_fresh.0 c.requires.reader_fresh.1 c.requires.writer_fresh.0 c.requires.writer_fresh.1,
  (refl, refl),
)

pub loop-fault-preserved : goal.loop-fault-preserved
loop-fault-preserved g c =
    let same : c.writer-in-Ok.result.now ≡ writer_of c.loop-fault.console = c.writer-in-Ok.ensures.value ∙ c.in-Ok.ensures.writer in (
      goes_on g.R.Read.remaining g.W.Write.contents 16777216 65536 (setting_from c.args.intake.now.runner.quiet c.args.container.now)
          (reader_of c.args.console.now)
          (writer_of c.args.console.now)
          (reader_of c.loop-fault.console) (reader_of c.read_some.new.console) (writer_of c.loop-fault.console) c.feed.new.writer
          (intake_on c.loop-fault.intake c.loop-fault.container) (intake_on c.feed.new.intake c.feed.new.container) c.in-Ok.n
          c.read_some.new.buffer
          c.loop-fault.invariant.0 c.in-Ok.ensures.gives
          (subst (λ w. Feeds g.W.Write.contents (intake_on c.loop-fault.intake c.loop-fault.container)
          (intake_on c.feed.new.intake c.feed.new.container) w c.feed.new.writer
          (take c.in-Ok.n c.read_some.new.buffer)) same c.in-Ok-feed.ensures.ok)
          (c.in-Ok-feed.ensures.still ∙ ap has_failed same) c.in-Ok-feed.ensures.flushed
          c.in-Ok-feed.ensures.empty c.in-Ok.ensures.settled,
      (
        c.in-Ok.ensures.streams.0 ∙ c.loop-fault.invariant.1.0,
        c.in-Ok.ensures.streams.1 ∙ c.loop-fault.invariant.1.1,
      ),
    )

pub returns-in-Err-feed-clause-memory : goal.returns-in-Err-feed-clause-memory
returns-in-Err-feed-clause-memory g c = λ e.
    let same : c.writer-in-Ok.result.now ≡ writer_of c.loop-fault.console = c.writer-in-Ok.ensures.value ∙ c.in-Ok.ensures.writer in
    feeds_to_memory g.R.Read.remaining g.W.Write.contents 16777216 65536
    (setting_from c.args.intake.now.runner.quiet c.args.container.now) (reader_of c.args.console.now) (writer_of c.args.console.now)
    (reader_of c.loop-fault.console) (reader_of c.read_some.new.console) (writer_of c.loop-fault.console) c.feed.new.writer
    (intake_on c.loop-fault.intake c.loop-fault.container) (intake_on c.feed.new.intake c.feed.new.container)
    c.loop-fault.invariant.0 c.in-Ok.n
    c.read_some.new.buffer c.in-Ok.ensures.gives (omega arith)
    (subst (λ w. FeedsBeforeMemory g.W.Write.contents (intake_on c.loop-fault.intake c.loop-fault.container)
    (intake_on c.feed.new.intake c.feed.new.container) w c.feed.new.writer
    (take c.in-Ok.n c.read_some.new.buffer)) same
    (c.in-Err-feed.ensures.memory (let is : c.in-Err-feed.fault ≡ Memory = cc in ap Err is)))

pub returns-in-Err-feed-clause-write : goal.returns-in-Err-feed-clause-write
returns-in-Err-feed-clause-write g c = λ e.
    let same : c.writer-in-Ok.result.now ≡ writer_of c.loop-fault.console = c.writer-in-Ok.ensures.value ∙ c.in-Ok.ensures.writer in
    feeds_to_write g.R.Read.remaining g.W.Write.contents 16777216 65536
    (setting_from c.args.intake.now.runner.quiet c.args.container.now) (reader_of c.args.console.now) (writer_of c.args.console.now)
    (reader_of c.loop-fault.console) (reader_of c.read_some.new.console) (writer_of c.loop-fault.console) c.feed.new.writer
    (intake_on c.loop-fault.intake c.loop-fault.container) (intake_on c.feed.new.intake c.feed.new.container)
    c.loop-fault.invariant.0 c.in-Ok.n
    c.read_some.new.buffer c.in-Ok.ensures.gives (omega arith)
    (subst (λ w. FeedsPart g.W.Write.contents (intake_on c.loop-fault.intake c.loop-fault.container)
    (intake_on c.feed.new.intake c.feed.new.container) w c.feed.new.writer
    (take c.in-Ok.n c.read_some.new.buffer)) same
    (c.in-Err-feed.ensures.write (let is : c.in-Err-feed.fault ≡ Write = cc in ap Err is)))

pub returns-in-Ok-eq0-clause-memory : goal.returns-in-Ok-eq0-clause-memory
returns-in-Ok-eq0-clause-memory g c = λ e.
    let same : c.writer.result.now ≡ writer_of c.loop-fault.console = c.writer.ensures.value ∙ c.in-Ok-eq0.ensures.writer in
    ends_in_memory g.R.Read.remaining g.W.Write.contents 16777216 65536
    (setting_from c.args.intake.now.runner.quiet c.args.container.now) (reader_of c.args.console.now) (writer_of c.args.console.now)
    (reader_of c.loop-fault.console) (reader_of c.read_some.new.console) (writer_of c.loop-fault.console) c.finish.new.writer
    (intake_on c.loop-fault.intake c.loop-fault.container) (intake_on c.finish.new.intake c.finish.new.container)
    c.loop-fault.invariant.0
    c.in-Ok-eq0.field-0 c.read_some.new.buffer c.in-Ok-eq0.ensures.gives
    (omega arith) (subst (λ w. EndsBeforeMemory g.W.Write.contents (intake_on c.loop-fault.intake c.loop-fault.container)
    (intake_on c.finish.new.intake c.finish.new.container) w c.finish.new.writer) same
    (c.finish.ensures.memory e))

pub returns-in-Ok-eq0-clause-write : goal.returns-in-Ok-eq0-clause-write
returns-in-Ok-eq0-clause-write g c = λ e.
    let same : c.writer.result.now ≡ writer_of c.loop-fault.console = c.writer.ensures.value ∙ c.in-Ok-eq0.ensures.writer in
    ends_in_write g.R.Read.remaining g.W.Write.contents 16777216 65536
    (setting_from c.args.intake.now.runner.quiet c.args.container.now) (reader_of c.args.console.now) (writer_of c.args.console.now)
    (reader_of c.loop-fault.console) (reader_of c.read_some.new.console) (writer_of c.loop-fault.console) c.finish.new.writer
    (intake_on c.loop-fault.intake c.loop-fault.container) (intake_on c.finish.new.intake c.finish.new.container)
    c.loop-fault.invariant.0
    c.in-Ok-eq0.field-0 c.read_some.new.buffer c.in-Ok-eq0.ensures.gives
    (omega arith) (subst (λ w. EndsPart g.W.Write.contents (intake_on c.loop-fault.intake c.loop-fault.container)
    (intake_on c.finish.new.intake c.finish.new.container) w c.finish.new.writer) same
    (c.finish.ensures.write e))
