use Rattle.cdi_text.proofs.Common.{◌≡◌, ◌==◌, ◌≤◌, ◌+◌}
use Rattle.std.proofs.Common.{take}
use Rattle.std.specs.List.{count_by}
use Rattle.cdi_text.proofs.key_lines.line_at.Given as goal

abbrev pub invariant-loop-byte : goal.invariant-loop-byte
invariant-loop-byte l = (l.line ≡ 1 + count_by (λ b. b == 10) (take l.byte-index l.byte-items)) × (l.line ≤ 1 + l.byte-index)
