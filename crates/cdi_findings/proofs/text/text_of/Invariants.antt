use Rattle.std.proofs.Common.{◌≡◌, take, flat_map, string_bytes}
use Rattle.cdi_findings.specs.FindingText.{text_of_finding}
use Rattle.cdi_findings.proofs.text.text_of.Given as goal

abbrev pub invariant-loop-finding : goal.invariant-loop-finding
invariant-loop-finding l = string_bytes l.lines ≡ flat_map text_of_finding (take l.finding-index l.findings)
