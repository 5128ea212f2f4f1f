use Rattle.cdi_script.proofs.Common.{subst, reader_of, writer_of, setting_from, RunsScriptTo, FailsToReadTo, RunsOutOfMemoryTo}
use Rattle.cdi_script.proofs.Common.{FailsToWriteTo}
use Rattle.std.proofs.lemmas.Result.{IfOk-weaker}
use Rattle.cdi_script.proofs.script.run.Goals as goal

pub returns-clause-ok : goal.returns-clause-ok
returns-clause-ok g c = IfOk-weaker c.run_on.result _ _ (λ summary ran. (
  c.run_on.new.container,
  subst (λ state. RunsScriptTo g.R.Read.remaining g.W.Write.contents 16777216 (setting_from c.args.options.quiet state)
      (reader_of c.args.console.now) (reader_of c.run_on.new.console) (writer_of c.args.console.now) (writer_of c.run_on.new.console)
      summary.refused c.run_on.new.container) c.new-container.ensures ran,
)) c.run_on.ensures.ok

pub returns-clause-read : goal.returns-clause-read
returns-clause-read g c = λ e. (
  c.run_on.new.container,
  subst (λ state. FailsToReadTo g.R.Read.remaining g.W.Write.contents 16777216 (setting_from c.args.options.quiet state)
      (reader_of c.args.console.now) (reader_of c.run_on.new.console) (writer_of c.args.console.now) (writer_of c.run_on.new.console)
      c.run_on.new.container) c.new-container.ensures (c.run_on.ensures.read e),
)

pub returns-clause-memory : goal.returns-clause-memory
returns-clause-memory g c = λ e. (
  c.run_on.new.container,
  subst (λ state. RunsOutOfMemoryTo g.R.Read.remaining g.W.Write.contents 16777216 65536 (setting_from c.args.options.quiet state)
      (reader_of c.args.console.now) (reader_of c.run_on.new.console) (writer_of c.args.console.now) (writer_of c.run_on.new.console)
      c.run_on.new.container) c.new-container.ensures (c.run_on.ensures.memory e),
)

pub returns-clause-write : goal.returns-clause-write
returns-clause-write g c = λ e. (
  c.run_on.new.container,
  subst (λ state. FailsToWriteTo g.R.Read.remaining g.W.Write.contents 16777216 65536 (setting_from c.args.options.quiet state)
      (reader_of c.args.console.now) (reader_of c.run_on.new.console) (writer_of c.args.console.now) (writer_of c.run_on.new.console)
      c.run_on.new.container) c.new-container.ensures (c.run_on.ensures.write e),
)
