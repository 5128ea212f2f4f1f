use Rattle.std.proofs.Common.{◌≡◌, ◌++◌, flat_map, map, rules, subst}
use Rattle.cdi_differences.proofs.AnswerLemmas.{in_turn}
use Rattle.cdi_differences.specs.{Wiring.answer_lines, Wiring.chain_lines, Wiring.observer_lines, Wiring.point_lines, Holds.shown_line}
use Rattle.cdi_differences.proofs.wiring.add_answers.Goals as goal

pub returns-clause-lines : goal.returns-clause-lines
unfolding answer_lines
returns-clause-lines g c =
    let same : c.in_ok-decls.decls ≡ c.args.container.now.decls = search rules in
    subst (λ ds. map shown_line c.add_observers.new.lines.items ≡ map shown_line c.args.lines.now.items ++ answer_lines ds) same
    (in_turn (map shown_line c.args.lines.now.items) (map shown_line c.add_points.new.lines.items)
    (map shown_line c.add_chains.new.lines.items)
    (map shown_line c.add_observers.new.lines.items) (flat_map (point_lines c.in_ok-decls.decls) c.in_ok-decls.decls)
    (flat_map (chain_lines c.in_ok-decls.decls) c.in_ok-decls.decls) (flat_map (observer_lines c.in_ok-decls.decls) c.in_ok-decls.decls)
    c.in_ok-add_points.ensures.lines c.in_ok-add_chains.ensures.lines c.in_ok-add_observers.ensures.lines)
