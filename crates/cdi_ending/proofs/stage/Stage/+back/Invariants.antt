use Rattle.std.proofs.Common.{◌+◌, ◌*◌}
use Rattle.cdi_ending.specs.Room.{frames_from, frames_within}
use Rattle.cdi_ending.proofs.stage.Stage.+back.Given as goal

abbrev pub decreases-invoke_back : goal.decreases-invoke_back
decreases-invoke_back g l = 4 * frames_from l.leaving.now.managed.now.pre l.link

abbrev pub decreases-proceed_back : goal.decreases-proceed_back
decreases-proceed_back g l = 4 * frames_from l.leaving.now.managed.now.pre l.link + 1

abbrev pub decreases-ask_back : goal.decreases-ask_back
decreases-ask_back g l = 4 * frames_within l.actor l.leaving.now.managed.now.pre l.link + 2

abbrev pub decreases-frame_back : goal.decreases-frame_back
decreases-frame_back g l = 4 * frames_within l.actor l.leaving.now.managed.now.pre l.link + 3
