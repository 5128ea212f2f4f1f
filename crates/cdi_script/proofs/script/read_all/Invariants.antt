use Rattle.cdi_script.proofs.Common.{bytes_of, reader_of, writer_of, intake_on, Goes, setting_from}
use Rattle.std.proofs.Common.{◌-◌}
use Rattle.cdi_devices.specs.Console.{KeepsStreams}
use Rattle.cdi_script.proofs.script.read_all.Given as goal

abbrev pub invariant-loop-fault : goal.invariant-loop-fault
invariant-loop-fault g l = Goes g.R.Read.remaining g.W.Write.contents 16777216 (setting_from l.fn.intake.runner.quiet l.fn.container)
    (reader_of l.fn.console) (writer_of l.fn.console) (reader_of l.console) (writer_of l.console) (intake_on l.intake l.container)
    × KeepsStreams l.fn.console l.console

abbrev pub decreases-loop-fault : goal.decreases-loop-fault
decreases-loop-fault g l = 16777216 - bytes_of (reader_of l.console)
