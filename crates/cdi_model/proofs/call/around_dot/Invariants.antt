use Rattle.cdi_model.proofs.Common.{◌≡◌, ◌++◌, take, drop, option_map, around_dot}
use Rattle.cdi_model.proofs.call.around_dot.Given as goal

abbrev pub invariant-loop-index : goal.invariant-loop-index
invariant-loop-index l = around_dot l.text
    ≡ option_map (λ p. (take l.index l.text ++ p.0, p.1)) (around_dot (drop l.index l.text))
