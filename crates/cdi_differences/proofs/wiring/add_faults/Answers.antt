use Rattle.std.proofs.Common.{◌≡◌, ◌∙◌, ◌++◌, OnOk, map, subst}
use Rattle.cdi_differences.specs.{Holds.shown_line, Wiring.fault_line}
use Rattle.cdi_differences.proofs.wiring.add_faults.Goals as goal

pub returns-in-Ok : goal.returns-in-Ok
returns-in-Ok g c = subst (λ list. OnOk c.push_faults.result (map shown_line c.push_faults.new.lines.items
    ≡ map shown_line c.args.lines.now.items ++ map fault_line list))
    (c.as_slice.ensures.value ∙ c.in-Ok.ensures.faults) c.push_faults.ensures
