use Rattle.std.proofs.Common.{◌≡◌, ◌≤◌, cond, drop}
use Rattle.cdi_model.specs.BeanName.{has_dot, last_identifier}
use Rattle.cdi_explain.proofs.known.last_begin.Given as goal

abbrev pub invariant-loop-index : goal.invariant-loop-index
invariant-loop-index l =
    record {
      found : cond (has_dot (drop l.index l.name)) (last_identifier (drop l.index l.name)) (drop l.begin l.name) ≡ last_identifier l.name;
      bound : l.begin ≤ l.index;
    }
