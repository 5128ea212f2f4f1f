use Rattle.std.proofs.Common.{◌≡◌, ℕ, List, map}
use Rattle.std.specs.Option.{option_or}
use Rattle.cdi_differences.specs.{Differences.text_at, Holds.shown_line, Holds.text_in}
use Rattle.cdi_differences.proofs.line.table_of.Given as goal

abbrev pub invariant-loop-line : goal.invariant-loop-line
invariant-loop-line l = (key : List ℕ) → option_or (text_in (map shown_line l.line-iterator.rest.items) key) (text_at l.table key)
    ≡ text_in (map shown_line l.fn.lines.items) key
