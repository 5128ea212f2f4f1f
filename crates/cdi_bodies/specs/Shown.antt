-- What a body is shown.
use Rattle.std.specs.Prelude.{ℕ, []}
use Rattle.cdi_model.specs.declared.outcome.Val.{Val}
use Rattle.cdi_bodies.specs.declared.act.Frame.{Frame}

-- before its first answer
abbrev pub first_shown : Val → ℕ → ℕ → Frame
first_shown argument calls fires = record { argument = argument; calls = calls; fires = fires; answers = record { items = [] } }
