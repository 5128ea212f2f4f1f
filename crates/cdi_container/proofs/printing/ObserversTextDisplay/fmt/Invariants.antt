use Rattle.cdi_container.proofs.Common.{take, HasWritten, IsPlainFormatter}
use Rattle.cdi_container.specs.AnswerText.{text_of_observer_ids}
use Rattle.cdi_container.proofs.printing.ObserversTextDisplay.fmt.Given as goal

abbrev pub invariant-loop-id : goal.invariant-loop-id
invariant-loop-id g l = IsPlainFormatter l.initial.f
    → HasWritten g.W.Write.write_str_gives l.initial.f (text_of_observer_ids (take l.id-index l.id-items)) l.f
