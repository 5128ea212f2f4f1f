-- What a callback shows while those after it run in its place.
use Rattle.std.specs.Prelude.{◌≡◌}
use Rattle.cdi_bodies.specs.declared.act.Frame.{Frame}
use Rattle.cdi_ending.specs.declared.paused.Paused.{Paused}

-- a frame shows what was kept of one
abbrev pub IsShown : Paused → Frame → Type 0
IsShown kept shown =
    shown ≡ record { argument = kept.argument; calls = kept.calls; fires = kept.fires; answers = record { items = kept.answers.items } }
