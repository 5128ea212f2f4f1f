use Rattle.cdi_container.proofs.Common.{take, HasWritten, IsPlainFormatter}
use Rattle.cdi_container.specs.AnswerText.{text_of_names}
use Rattle.cdi_container.proofs.printing.NamesTextDisplay.fmt.Given as goal

abbrev pub invariant-loop-name : goal.invariant-loop-name
invariant-loop-name g l = IsPlainFormatter l.initial.f
    → HasWritten g.W.Write.write_str_gives l.initial.f (text_of_names (take l.name-index l.name-items)) l.f
