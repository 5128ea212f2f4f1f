use Rattle.cdi_model.proofs.Common.{take, HasWritten, IsPlainFormatter}
use Rattle.cdi_model.specs.EventText.{text_of_uses}
use Rattle.cdi_model.proofs.display.ListedDisplay.fmt.Given as goal

abbrev pub invariant-loop-use_of_qualifier : goal.invariant-loop-use_of_qualifier
invariant-loop-use_of_qualifier g l = IsPlainFormatter l.initial.f
    → HasWritten g.W.Write.write_str_gives l.initial.f (text_of_uses (take l.use_of_qualifier-index l.use_of_qualifier-items)) l.f
