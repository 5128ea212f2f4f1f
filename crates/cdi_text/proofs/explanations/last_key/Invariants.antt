use Rattle.cdi_text.proofs.Common.{◌≡◌, drop, option_map}
use Rattle.std.specs.Option.{option_or}
use Rattle.cdi_text.specs.Places.{last_key}
use Rattle.cdi_text.proofs.explanations.last_key.Given as goal

abbrev pub invariant-loop-step : goal.invariant-loop-step
invariant-loop-step l = option_or (last_key (drop l.step-index l.way)) (option_map (λ k. k.now) l.last) ≡ last_key l.way
