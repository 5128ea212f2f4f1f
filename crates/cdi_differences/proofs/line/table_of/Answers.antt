use Rattle.std.proofs.Common.{map, rules}
use Rattle.cdi_differences.proofs.LineLemmas.{one_line_more}
use Rattle.cdi_differences.specs.Holds.{shown_line}
use Rattle.cdi_differences.proofs.line.table_of.Goals as goal

pub loop-line-preserved-in_ok-insert : goal.loop-line-preserved-in_ok-insert
loop-line-preserved-in_ok-insert c = one_line_more c.loop-line.table c.insert.new.self c.in-Some.line.key c.in-Some.line.text
    (map shown_line c.next.new.self.rest.items) (map shown_line c.args.lines.items) c.in_ok-insert.ensures.updates (search rules)

pub loop-line-preserved : goal.loop-line-preserved
loop-line-preserved c = one_line_more c.loop-line.table c.insert.new.self c.in-Some.line.key c.in-Some.line.text
    (map shown_line c.next.new.self.rest.items) (map shown_line c.args.lines.items) c.in_ok-insert.ensures.updates (search rules)
