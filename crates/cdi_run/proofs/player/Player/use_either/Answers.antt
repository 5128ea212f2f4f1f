use Rattle.std.proofs.Common.{◌≡◌, arith, true, false}
use Rattle.cdi_legal.specs.{Legal.is_normal, LegalRun.Runs}
use Rattle.cdi_run.proofs.Staying.{created, obtained, settled_after}
use Rattle.cdi_run.proofs.player.Player.use_either.Goals as goal

pub returns-in-Refused : goal.returns-in-Refused
returns-in-Refused g c =
    let h = c.scope_of.ensures in
    let normal : is_normal h.bean.scope ≡ true = rw h.scoped (grind arith) in
    let e : c.in_ok-bean.bean ≡ c.args.bean = c.in_ok-bean.ensures.value in
    rw (← e)
    (Runs.refused_shared _ _ _ _ _ _ h.there normal (rw c.in-Refused.is at c.in_ok-failure.ensures))

pub returns-in_ok-outcome-in-Instance : goal.returns-in_ok-outcome-in-Instance
returns-in_ok-outcome-in-Instance g c =
    let h = c.scope_of.ensures in
    let normal : is_normal h.bean.scope ≡ true = rw h.scoped (grind arith) in
    let e : c.in_ok-bean.bean ≡ c.args.bean = c.in_ok-bean.ensures.value in
    rw (← e)
    (Runs.used_shared _ _ _ _ _ _ _ _ h.there normal (rw c.in-Instance.is at c.in_ok-failure.ensures) c.in_ok-outcome-in-Instance.ensures)

pub returns-in-Refused-2 : goal.returns-in-Refused-2
returns-in-Refused-2 g c =
    let h = c.scope_of.ensures in
    let own : is_normal h.bean.scope ≡ false = rw h.scoped (grind arith) in
    let e : c.in_ok-bean.bean ≡ c.args.bean = c.in_ok-bean.ensures.value in
    rw (← e)
    (Runs.refused_own _ _ _ _ _ _ h.there own (rw c.in-Refused-2.is at c.in_ok-failure-2.ensures))

pub returns-in_ok-destroy-in-Instance-2 : goal.returns-in_ok-destroy-in-Instance-2
returns-in_ok-destroy-in-Instance-2 g c =
    let h = c.scope_of.ensures in
    let own : is_normal h.bean.scope ≡ false = rw h.scoped (grind arith) in
    let e : c.in_ok-bean.bean ≡ c.args.bean = c.in_ok-bean.ensures.value in
    rw (← e)
    (Runs.used_own _ _ _ _ _ _ _ _ _ h.there own (rw c.in-Instance-2.is at c.in_ok-failure-2.ensures)
    c.in_ok-outcome-in-Instance-2.ensures c.in_ok-destroy-in-Instance-2.ensures.legal)

pub use_instance-requires-clause-settled : goal.use_instance-requires-clause-settled
use_instance-requires-clause-settled g c =
    settled_after c.args.self.now.stage (rw c.in-Instance.is at c.in_ok-failure.ensures) tt c.requires.settled

pub use_instance-requires-clause-has : goal.use_instance-requires-clause-has
use_instance-requires-clause-has g c =
    obtained c.args.self.now.stage (rw c.in-Instance.is at c.in_ok-failure.ensures) c.requires.settled

pub use_instance-requires-in-Instance-2-clause-settled : goal.use_instance-requires-in-Instance-2-clause-settled
use_instance-requires-in-Instance-2-clause-settled g c =
    settled_after c.args.self.now.stage (rw c.in-Instance-2.is at c.in_ok-failure-2.ensures) tt c.requires.settled

pub use_instance-requires-in-Instance-2-clause-has : goal.use_instance-requires-in-Instance-2-clause-has
use_instance-requires-in-Instance-2-clause-has g c =
    created c.args.self.now.stage (rw c.in-Instance-2.is at c.in_ok-failure-2.ensures) tt c.requires.settled
