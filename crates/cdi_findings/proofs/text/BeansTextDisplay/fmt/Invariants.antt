use Rattle.std.proofs.Common.{take}
use Rattle.std.specs.Fmt.{HasWritten, IsPlainFormatter}
use Rattle.cdi_findings.specs.FindingText.{text_of_beans}
use Rattle.cdi_findings.proofs.text.BeansTextDisplay.fmt.Given as goal

abbrev pub invariant-loop-considered : goal.invariant-loop-considered
invariant-loop-considered g l = IsPlainFormatter l.initial.f
    → HasWritten g.W.Write.write_str_gives l.initial.f (text_of_beans (take l.considered-index l.considered-items)) l.f
