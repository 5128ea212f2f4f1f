use Rattle.std.proofs.Common.{sym}
use Rattle.cdi_ending.proofs.Before.{acts_soundly, runs_before, runs_there}
use Rattle.cdi_ending.proofs.stage.Stage.part_before.Goals as goal

pub unreachable-requires : goal.unreachable-requires
unreachable-requires g c =
    let here = c.scene.ensures in
    let there = acts_soundly _ _ c.args.leaving.now.id _ _ here.sound c.requires.managed c.requires.acts in
    runs_there _ _ _ there (rw here.scene at (sym (rw c.in-None.is at c.part.ensures)))

pub returns : goal.returns
returns g c =
    let here = c.scene.ensures in
    runs_before _ _ _ _ (acts_soundly _ _ c.args.leaving.now.id _ _ here.sound c.requires.managed c.requires.acts)
    (rw here.scene at (sym c.in-Some.ensures))
