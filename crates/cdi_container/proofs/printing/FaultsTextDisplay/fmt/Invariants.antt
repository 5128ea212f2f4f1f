use Rattle.cdi_container.proofs.Common.{take, HasWritten, IsPlainFormatter}
use Rattle.cdi_container.specs.AnswerText.{text_of_faults}
use Rattle.cdi_container.proofs.printing.FaultsTextDisplay.fmt.Given as goal

abbrev pub invariant-loop-fault : goal.invariant-loop-fault
invariant-loop-fault g l = IsPlainFormatter l.initial.f
    → HasWritten g.W.Write.write_str_gives l.initial.f (text_of_faults (take l.fault-index l.fault-items)) l.f
