use Rattle.std.proofs.Common.{◌≡◌, ◌≤◌, ◌+◌, ◌-◌, ◌*◌, [], false, length}
use Rattle.cdi_legal.specs.Legal.{Legal, Answer, inject, supply, asks, fire}
use Rattle.cdi_legal.specs.{Moment.Moment, Furnished.IsServed}
use Rattle.cdi_run.specs.Known.{IsBegun, IsSettled}
use Rattle.cdi_run.proofs.player.Player.+run.Given as goal

abbrev pub decreases-create : goal.decreases-create
decreases-create g l = 32 * l.levels + 1

abbrev pub decreases-frame : goal.decreases-frame
decreases-frame g l = 32 * l.levels + 2

abbrev pub decreases-obtain : goal.decreases-obtain
decreases-obtain g l = 32 * l.levels + 3

abbrev pub decreases-invoke : goal.decreases-invoke
decreases-invoke g l = 32 * l.levels + 3

abbrev pub decreases-inject : goal.decreases-inject
decreases-inject g l = 32 * l.levels + 4

abbrev pub decreases-supply : goal.decreases-supply
decreases-supply g l = 32 * l.levels + 4

abbrev pub decreases-reach : goal.decreases-reach
decreases-reach g l = 32 * l.levels + 5

abbrev pub decreases-produce : goal.decreases-produce
decreases-produce g l = 32 * l.levels + 6

abbrev pub decreases-attend : goal.decreases-attend
decreases-attend g l = 32 * l.levels + 6

abbrev pub decreases-call : goal.decreases-call
decreases-call g l = 32 * l.levels + 7

abbrev pub decreases-produce_on_shared : goal.decreases-produce_on_shared
decreases-produce_on_shared g l = 32 * l.levels + 8

abbrev pub decreases-produce_on_own : goal.decreases-produce_on_own
decreases-produce_on_own g l = 32 * l.levels + 8

abbrev pub decreases-set_up_product : goal.decreases-set_up_product
decreases-set_up_product g l = 32 * l.levels + 9

abbrev pub decreases-set_up_managed : goal.decreases-set_up_managed
decreases-set_up_managed g l = 32 * l.levels + 9

abbrev pub decreases-setup : goal.decreases-setup
decreases-setup g l = 32 * l.levels + 10

abbrev pub decreases-notify_shared : goal.decreases-notify_shared
decreases-notify_shared g l = 32 * l.levels + 9

abbrev pub decreases-notify_own : goal.decreases-notify_own
decreases-notify_own g l = 32 * l.levels + 9

abbrev pub decreases-notify : goal.decreases-notify
decreases-notify g l = 32 * l.levels + 10

abbrev pub decreases-notify_each : goal.decreases-notify_each
decreases-notify_each g l = 32 * l.levels + 11

abbrev pub decreases-proceed : goal.decreases-proceed
decreases-proceed g l = 32 * l.levels + 11

abbrev pub decreases-act_on : goal.decreases-act_on
decreases-act_on g l = 32 * l.levels + 12

abbrev pub decreases-ask_on : goal.decreases-ask_on
decreases-ask_on g l = 32 * l.levels + 13

abbrev pub invariant-inject-loop-position : goal.invariant-inject-loop-position
invariant-inject-loop-position g l = record {
  begun : l.id.number ≤ l.run.moment.standing.given;
  settled : IsSettled l.self.stage l.run.moment;
  rest : (a : Answer) (m : Moment) → Legal l.self.stage.scene l.levels (inject l.id l.injections l.position) l.run.moment a m
      → Legal l.self.stage.scene l.levels (inject l.id l.injections 0) l.fn.run.moment a m;
}

abbrev pub invariant-supply-loop-param : goal.invariant-supply-loop-param
invariant-supply-loop-param g l = record {
  begun : IsBegun l.run.moment.standing.given l.product;
  settled : IsSettled l.self.stage l.run.moment;
  count : length l.held.items ≡ l.param;
  rest : (a : Answer) (m : Moment)
      → Legal l.self.stage.scene l.levels (supply l.product l.params l.param l.held.items) l.run.moment a m
      → Legal l.self.stage.scene l.levels (supply l.product l.params 0 []) l.fn.run.moment a m;
}

abbrev pub invariant-notify_each-loop-position : goal.invariant-notify_each-loop-position
invariant-notify_each-loop-position g l = record {
  settled : IsSettled l.self.stage l.run.moment;
  rest : (a : Answer) (m : Moment)
      → Legal l.self.stage.scene l.levels (fire l.observers l.position l.arg) l.run.moment a m
      → Legal l.self.stage.scene l.levels (fire l.observers 0 l.arg) l.fn.run.moment a m;
}

abbrev pub invariant-ask_on-asking : goal.invariant-ask_on-asking
invariant-ask_on-asking g l = record {
  calls : l.shown.value.calls ≡ length l.part.calls;
  fires : l.shown.value.fires ≡ length l.part.fires;
  few : length l.shown.value.answers.items ≤ 64;
  settled : IsSettled l.self.stage l.run.moment;
  served : IsServed l.self.stage.scene l.run.moment.standing.live l.seat l.held;
  rest : (a : Answer) (m : Moment)
      → Legal l.self.stage.scene l.levels (asks l.seat l.held l.passed.link (length l.shown.value.answers.items) l.has_returned)
      l.run.moment a m
      → Legal l.self.stage.scene l.levels (asks l.seat l.held l.passed.link 0 false) l.fn.run.moment a m;
}

abbrev pub decreases-ask_on-asking : goal.decreases-ask_on-asking
decreases-ask_on-asking g l = 64 - length l.shown.value.answers.items
