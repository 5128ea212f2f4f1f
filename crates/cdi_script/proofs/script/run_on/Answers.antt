use Rattle.cdi_script.proofs.Common.{subst, Write, Memory, reader_of, writer_of, setting_from, RunsScriptTo, FailsToReadTo}
use Rattle.cdi_script.proofs.Common.{RunsOutOfMemoryTo, FailsToWriteTo}
use Rattle.std.specs.Prelude.{IfOk, IsErrOf}
use Rattle.cdi_devices.specs.declared.devices.RunFault.TheVariants.{Read}
use Rattle.cdi_script.proofs.Going.{out_of_memory_first}
use Rattle.cdi_script.proofs.script.run_on.Goals as goal

pub returns-clause-ok : goal.returns-clause-ok
returns-clause-ok g c = subst (λ quiet. IfOk c.read_all.result (λ summary.
    RunsScriptTo g.R.Read.remaining g.W.Write.contents 16777216 (setting_from quiet c.args.container.now)
    (reader_of c.args.console.now) (reader_of c.read_all.new.console) (writer_of c.args.console.now) (writer_of c.read_all.new.console)
    summary.refused c.read_all.new.container))
    c.new-intake.ensures.quiet c.read_all.ensures.ok

pub returns-clause-read : goal.returns-clause-read
returns-clause-read g c = subst (λ quiet. IsErrOf c.read_all.result Read →
    FailsToReadTo g.R.Read.remaining g.W.Write.contents 16777216 (setting_from quiet c.args.container.now)
    (reader_of c.args.console.now) (reader_of c.read_all.new.console) (writer_of c.args.console.now) (writer_of c.read_all.new.console)
    c.read_all.new.container)
    c.new-intake.ensures.quiet c.read_all.ensures.read

pub returns-clause-memory : goal.returns-clause-memory
returns-clause-memory g c = subst (λ quiet. IsErrOf c.read_all.result Memory →
    RunsOutOfMemoryTo g.R.Read.remaining g.W.Write.contents 16777216 65536 (setting_from quiet c.args.container.now)
    (reader_of c.args.console.now) (reader_of c.read_all.new.console) (writer_of c.args.console.now) (writer_of c.read_all.new.console)
    c.read_all.new.container)
    c.new-intake.ensures.quiet c.read_all.ensures.memory

pub returns-clause-write : goal.returns-clause-write
returns-clause-write g c = subst (λ quiet. IsErrOf c.read_all.result Write →
    FailsToWriteTo g.R.Read.remaining g.W.Write.contents 16777216 65536 (setting_from quiet c.args.container.now)
    (reader_of c.args.console.now) (reader_of c.read_all.new.console) (writer_of c.args.console.now) (writer_of c.read_all.new.console)
    c.read_all.new.container)
    c.new-intake.ensures.quiet c.read_all.ensures.write

pub returns-in_err-buffer-clause-memory : goal.returns-in_err-buffer-clause-memory
returns-in_err-buffer-clause-memory g c = λ e. out_of_memory_first g.R.Read.remaining g.W.Write.contents 16777216 65536
    (setting_from c.args.options.quiet c.args.container.now) (reader_of c.args.console.now) (writer_of c.args.console.now)
    c.requires.reader_fresh.0
