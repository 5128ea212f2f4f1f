use Rattle.std.proofs.Common.{rules, ◌≡◌, ◌<◌, ◌≤◌, ◌+◌, ◌-◌, length, [], Some, None, IsSome, arith, sym, ◌∙◌, refl, ap, true, false}
use Rattle.std.proofs.lemmas.Grind.{common_steps}
use Rattle.cdi_model.specs.declared.outcome.{Outcome.TheVariants.Value, Val.Val}
use Rattle.cdi_contexts.specs.declared.instance.Actor.TheVariants.{Target}
use Rattle.cdi_scene.specs.declared.place.Place.TheVariants.{Construct, Post, Method, Producer, Observer as Observing}
use Rattle.cdi_scene.specs.{Scene.product_at, Sound.IsSoundAt}
use Rattle.cdi_legal.specs.{Legal.Legal, Legal.IsInactive, Legal.at, Legal.is_normal, Acts.ending, Acts.Permits, Ends.Ends, Ends.seat_on}
use Rattle.cdi_legal.specs.{Ends.seat_of_class, Moment.Moment, Furnished.HasDependents, Furnished.IsDependent, Furnished.IsServed}
use Rattle.cdi_legal.proofs.{Growing.legal_grows, Settling.has-after}
use Rattle.cdi_ending.proofs.Before.{some_of}
use Rattle.cdi_run.proofs.Beans.{form_of, never, some_bean, begun_grows, with_outcome, with_both}
use Rattle.cdi_run.proofs.player.Player.+run.Goals.{ask_on-then-not-may_ask, ask_on-else-not-may_ask+in-Some}
use Rattle.cdi_run.proofs.player.Player.+run.Goals.{ask_on-else-not-may_ask+in_default+then-len-eq64}
use Rattle.cdi_run.proofs.Staying.{created, injected, never_unmade, obtained, owned_by_param, reached, served_after, served_alone}
use Rattle.cdi_run.proofs.Staying.{served_class, served_host, served_observer, served_same, settled_after, settled_begun, settled_same}
use Rattle.cdi_run.specs.Known.{IsPlaced, IsSettled}
use Rattle.cdi_run.proofs.player.Player.+run.Goals as goal

pub act_on-returns-in_ok-note-in-Call-2 : goal.act_on-returns-in_ok-note-in-Call-2
act_on-returns-in_ok-note-in-Call-2 g t c =
    rw (c.unreturned.ensures, c.in-Call.is)
    (Legal.called _ _ _ _ _ _ _ _ _ _ _ _ _ c.part_making-part.ensures.runs.runs c.site_in.ensures c.in_ok-note-in-Call.ensures.ok
    c.in_ok-outcome-in-Call.ensures c.in_ok-note-in-Call-2.ensures.ok)

pub act_on-returns-in_ok-note-in-Fire-2 : goal.act_on-returns-in_ok-note-in-Fire-2
act_on-returns-in_ok-note-in-Fire-2 g t c =
    rw (c.unreturned-in-Fire.ensures, c.in-Fire.is)
    (Legal.fired _ _ _ _ _ _ _ _ _ _ _ _ _ c.part_making-part.ensures.runs.runs c.observers_in.ensures c.in_ok-note-in-Fire.ensures.ok
    c.in_ok-outcome-in-Fire.ensures c.in_ok-note-in-Fire-2.ensures.ok)

pub act_on-returns-in_ok-outcome-in_default : goal.act_on-returns-in_ok-outcome-in_default
act_on-returns-in_ok-outcome-in_default g t c =
    rw c.unreturned-in_default.ensures (Legal.touched _ _ _ _ _ _ _ _ _ c.in-Some.is c.in_ok-outcome-in_default.ensures.legal)

pub ask_on-returns : goal.ask_on-returns
ask_on-returns g t c =
    rw c.end_frame.ensures
    (elim c.if-not-may_ask.branch [
      | ask_on-then-not-may_ask w ↦
          let none : 20000 ≤ c.asking.run.moment.asked = omega (arith, never _ _ c.may_ask.ensures w.if-not-may_ask.true) in
          rw (w.run-is, w.answered-is, w.failed-answered.ensures) (c.asking.invariant.rest _ _ (Legal.out_of_budget _ _ _ _ _ _ _ none))
      | ask_on-else-not-may_ask+in-Some w ↦
          let some : c.asking.run.moment.asked < 20000 = c.may_ask.ensures.0 w.if-not-may_ask.false in
          let permits : Permits c.args.self.now.stage.scene c.args.seat w.ask-act.result =
          record { part = c.part_at-part.result.now; runs = c.part_at-part.ensures.runs; permitted = w.ask-act.ensures } in
          let q : ending w.ask-act.result ≡ Some w.in-Some.outcome = grind arith in
          rw (w.run-is, w.answered-is) (c.asking.invariant.rest _ _ (Legal.ended _ _ _ _ _ _ _ _ _ _ some w.count_asking.ensures permits q))
      | ask_on-else-not-may_ask+in_default+then-len-eq64 w ↦
          let some : c.asking.run.moment.asked < 20000 = c.may_ask.ensures.0 w.if-not-may_ask.false in
          let permits : Permits c.args.self.now.stage.scene c.args.seat w.ask-act.result =
          record { part = c.part_at-part.result.now; runs = c.part_at-part.ensures.runs; permitted = w.ask-act.ensures } in
          let q : ending w.ask-act.result ≡ None = grind arith in
          let full : length c.asking.shown.value.answers.items ≡ 64 = grind (arith, common_steps) in
          rw (w.run-is, w.answered-is, w.failed-answered-then-len-eq64.ensures)
          (c.asking.invariant.rest _ _ (rw full (Legal.stopped _ _ _ _ _ _ _ _ some w.count_asking.ensures permits q)))
    ])

pub ask_on-asking-preserved : goal.ask_on-asking-preserved
ask_on-asking-preserved g t c =
    let some : c.asking.run.moment.asked < 20000 = grind (arith, c.may_ask.ensures) in
    let permits : Permits c.args.self.now.stage.scene c.args.seat c.ask-act.result =
    record { part = c.part_at-part.result.now; runs = c.part_at-part.ensures.runs; permitted = c.ask-act.ensures } in
    let i = c.asking.invariant in
    let lent = c.deref_mut.ensures.value in
    let more : length c.push.new.self.items ≡ length c.asking.shown.value.answers.items + 1 = grind (arith, common_steps) in
    let room : length c.asking.shown.value.answers.items < 64 = grind (arith, common_steps) in
    let asked = settled_same c.args.self.now.stage c.asking.run.moment c.count_asking.new.self.moment
    (ap (λ (m : Moment). m.standing) c.count_asking.ensures) i.settled in
    record {
      calls = rw lent i.calls;
      fires = rw lent i.fires;
      few = omega arith;
      settled = settled_after c.args.self.now.stage c.in_ok-given.ensures tt asked;
      served = served_after c.args.self.now.stage c.args.seat c.args.held.now c.in_ok-given.ensures tt asked
          (served_same c.args.self.now.stage.scene c.args.seat c.args.held.now c.asking.run.moment c.count_asking.new.self.moment
          (ap (λ (m : Moment). m.standing) c.count_asking.ensures) i.served);
      rest = λ a m e.
          i.rest a m
          (Legal.went_on _ _ _ _ _ _ _ _ _ _ _ _ _ _ some c.count_asking.ensures permits room c.in_ok-given.ensures
          (rw (more, c.or-has_returned.ensures) at e));
    }

pub attend-invoke-requires : goal.attend-invoke-requires
attend-invoke-requires g t c =
    let o = c.requires.observer in
    let none : length c.args.observer.now.params ≤ 0 =
    rw (← c.as_slice-params.ensures) (grind (arith, common_steps, c.is_empty.ensures, c.if-is_empty.true)) in
    let served : IsServed c.args.self.now.stage.scene c.args.run.now.moment.standing.live
    (seat_on c.args.id Target (Observing c.args.position)) [] =
    served_observer c.args.self.now.stage c.args.id c.args.position c.args.observer.now o.there
    (Legal.no_more_params 0 0 None c.args.observer.now.params [] c.args.run.now.moment none) c.requires.settled c.requires.has in
    search rules

pub attend-returns-then-is_empty : goal.attend-returns-then-is_empty
attend-returns-then-is_empty g t c =
    let none : length c.args.observer.now.params ≤ 0 =
    rw (← c.as_slice-params.ensures) (grind (arith, common_steps, c.is_empty.ensures, c.if-is_empty.true)) in
    Legal.attended _ _ _ _ _ _ _ _ _ _ _ _ (Legal.no_more_params _ _ _ _ _ _ none) c.in_ok-given.ensures (Ends.none_held _ _)

pub attend-invoke-requires-in-None : goal.attend-invoke-requires-in-None
attend-invoke-requires-in-None g t c =
    let p = rw (c.as_slice-params.ensures, c.in-None.is) at c.in_ok-supplied.ensures in
    let o = c.requires.observer in
    let settled : IsSettled c.args.self.now.stage c.supply.new.run.moment = settled_after c.args.self.now.stage p tt c.requires.settled in
    let served : IsServed c.args.self.now.stage.scene c.supply.new.run.moment.standing.live
    (seat_on c.args.id Target (Observing c.args.position)) c.deref-in-None.result.now =
    rw c.deref-in-None.ensures.0
    (served_observer c.args.self.now.stage c.args.id c.args.position c.args.observer.now o.there p c.requires.settled c.requires.has) in
    search rules

pub attend-returns-in_ok-destroy_held-in-Some : goal.attend-returns-in_ok-destroy_held-in-Some
attend-returns-in_ok-destroy_held-in-Some g t c =
    Legal.not_supplied _ _ _ _ _ _ _ _ _ _ (rw (c.as_slice-params.ensures, c.in-Some.is) at c.in_ok-supplied.ensures)
    (rw c.deref.ensures.0 at c.in_ok-destroy_held-in-Some.ensures.legal)

pub attend-returns-in_ok-destroy_held-in-None : goal.attend-returns-in_ok-destroy_held-in-None
attend-returns-in_ok-destroy_held-in-None g t c =
    Legal.attended _ _ _ _ _ _ _ _ _ _ _ _ (rw (c.as_slice-params.ensures, c.in-None.is) at c.in_ok-supplied.ensures)
    (rw c.deref-in-None.ensures.0 at c.in_ok-given-in-None.ensures)
    (rw c.deref-in-None-2.ensures.0 at c.in_ok-destroy_held-in-None.ensures.legal)

pub call-invoke-requires : goal.call-invoke-requires
call-invoke-requires g t c =
    let p = rw c.in-Instance.is at c.in_ok-failure.ensures in
    let settled : IsSettled c.args.self.now.stage c.reach.new.run.moment = settled_after c.args.self.now.stage p tt c.requires.settled in
    let has = reached c.args.self.now.stage p c.requires.settled c.requires.served c.requires.named in
    let served : IsServed c.args.self.now.stage.scene c.reach.new.run.moment.standing.live
    (seat_on (at c.args.site.bean c.in-Instance.number) Target (Method c.args.site.method)) [] =
    served_alone c.args.self.now.stage.scene c.reach.new.run.moment.standing.live (at c.args.site.bean c.in-Instance.number)
    (Method c.args.site.method) has refl in
    search rules

pub call-returns-then-is_some : goal.call-returns-then-is_some
call-returns-then-is_some g t c =
    let some : IsSome (product_at c.args.self.now.stage.scene c.args.site.bean) = grind (arith, common_steps) in
    Legal.called_product _ _ _ _ _ _ _ _ _ (rw c.in-Instance.is at c.in_ok-failure.ensures) some (ap (λ (v : Val). Value v) c.load.ensures)

pub call-returns-in-Refused : goal.call-returns-in-Refused
call-returns-in-Refused g t c = Legal.unreached _ _ _ _ _ _ _ _ (rw c.in-Refused.is at c.in_ok-failure.ensures)

pub call-returns-in_ok-given-in-Instance : goal.call-returns-in_ok-given-in-Instance
call-returns-in_ok-given-in-Instance g t c =
    let none : product_at c.args.self.now.stage.scene c.args.site.bean ≡ None = grind (arith, common_steps) in
    Legal.called_managed _ _ _ _ _ _ _ _ _ _ _ (rw c.in-Instance.is at c.in_ok-failure.ensures) none c.in_ok-given-in-Instance.ensures

pub create-setup-requires : goal.create-setup-requires
create-setup-requires g t c =
    let begun = rw c.in-Some.is at c.in_ok-id.ensures.ok in
    let settled : IsSettled c.args.self.now.stage c.begin.new.self.moment =
    settled_begun c.args.self.now.stage c.in-Some.id c.args.owner c.args.run.now.moment c.begin.new.self.moment begun.2 c.requires.owned
    c.requires.settled in
    let newest : c.in-Some.id.number ≡ c.begin.new.self.moment.standing.given =
    begun.1 ∙ sym (ap (λ (m : Moment). m.standing.given) begun.2) in
    search rules

pub create-returns-then-levels-eq0 : goal.create-returns-then-levels-eq0
create-returns-then-levels-eq0 g t c = Legal.too_deep _ _ _ _ c.if-levels-eq0.true

pub create-returns-in_default : goal.create-returns-in_default
create-returns-in_default g t c =
    let none : c.in_ok-id.field-0 ≡ None = grind arith in
    let l = c.in_ok-id.ensures.limit none in
    let some : 0 < c.args.levels = omega arith in
    rw l.1 (Legal.too_many _ _ _ _ some l.0)

pub create-returns-in_ok-note-in-Value : goal.create-returns-in_ok-note-in-Value
create-returns-in_ok-note-in-Value g t c =
    let begun = rw c.in-Some.is at c.in_ok-id.ensures.ok in
    let open_for_more = c.in_ok-id.ensures.possible (rw c.in-Some.is refl) in
    let x = some_bean _ c.requires.there in
    let product = rw x.is at c.product_of-product.ensures in
    Legal.made _ _ _ _ _ c.in-Some.id _ _ _ _ _ (omega arith) open_for_more x.is begun.0 begun.1 begun.2
    (rw c.in-Value.is at c.in_ok-value.ensures) (rw product at c.in_ok-note-in-Value.ensures.ok)

pub create-returns-in_ok-destroy_dependents-in-Failed : goal.create-returns-in_ok-destroy_dependents-in-Failed
create-returns-in_ok-destroy_dependents-in-Failed g t c =
    let begun = rw c.in-Some.is at c.in_ok-id.ensures.ok in
    let open_for_more = c.in_ok-id.ensures.possible (rw c.in-Some.is refl) in
    Legal.broken _ _ _ _ c.in-Some.id _ _ _ _ _ _ (omega arith) open_for_more begun.0 begun.1 begun.2
    (rw c.in-Failed.is at c.in_ok-value.ensures) c.in_ok-note-in-Failed.ensures.ok
    c.in_ok-destroy_dependents-in-Failed.ensures.legal

pub notify_each-returns-in-Failed : goal.notify_each-returns-in-Failed
notify_each-returns-in-Failed g t c =
    c.loop-position.invariant.rest _ _
    (Legal.notification_failed _ _ _ _ _ _ _ _ c.notified_in-notified.ensures (rw c.in-Failed.is at c.in_ok-notify.ensures))

pub notify_each-loop-position-preserved : goal.notify_each-loop-position-preserved
notify_each-loop-position-preserved g t c = record {
  settled = settled_after c.args.self.now.stage c.in_ok-notify.ensures tt c.loop-position.invariant.settled;
  rest = λ a m e.
      c.loop-position.invariant.rest a m
      (Legal.notified _ _ _ _ _ _ _ _ _ _ c.notified_in-notified.ensures (rw c.in-Value.is at c.in_ok-notify.ensures) e);
}

pub notify_each-returns : goal.notify_each-returns
notify_each-returns g t c = c.loop-position.invariant.rest _ _ (Legal.all_notified _ _ _ _ _ (omega arith))

pub frame-returns-then-levels-eq0 : goal.frame-returns-then-levels-eq0
frame-returns-then-levels-eq0 g t c = Legal.frame_too_deep _ _ _ _ _ _ c.if-levels-eq0.true

pub frame-returns : goal.frame-returns
frame-returns g t c =
    rw c.has_returned.ensures
    (Legal.framed c.args.levels (c.args.levels - 1) c.args.passed.link c.args.seat c.args.held.now c.args.passed.arg
    c.in_ok-given.given.outcome c.in_ok-given.given.has_returned c.args.run.now.moment c.note.new.self.moment
    c.ask_on.new.run.moment c.note-2.new.self.moment (omega arith) c.in_ok-note.ensures.ok c.in_ok-given.ensures
    c.in_ok-note-2.ensures.ok)

pub inject-loop-position-preserved-then-is_normal : goal.inject-loop-position-preserved-then-is_normal
inject-loop-position-preserved-then-is_normal g t c =
    let h = c.scope_of.ensures in
    let normal : is_normal h.bean.scope ≡ true = rw h.scoped (grind arith) in
    let i = c.loop-position.invariant in
    record {
      begun = i.begun;
      settled = i.settled;
      rest = λ a m e. i.rest a m (Legal.proxy_injected _ _ _ _ _ _ _ _ _ c.injection_in-injection.ensures h.there normal e);
    }

pub inject-returns-in-Refused : goal.inject-returns-in-Refused
inject-returns-in-Refused g t c =
    let h = c.scope_of.ensures in
    let own : is_normal h.bean.scope ≡ false = rw h.scoped (grind arith) in
    c.loop-position.invariant.rest _ _
    (Legal.injection_failed _ _ _ _ _ _ _ _ _ c.injection_in-injection.ensures h.there own
    (rw c.in-Refused.is at c.in_ok-create.ensures))

pub inject-loop-position-preserved : goal.inject-loop-position-preserved
inject-loop-position-preserved g t c =
    let h = c.scope_of.ensures in
    let own : is_normal h.bean.scope ≡ false = rw h.scoped (grind arith) in
    let i = c.loop-position.invariant in
    let made = rw c.in-Instance.is at c.in_ok-create.ensures in
    record {
      begun = omega (arith, i.begun, legal_grows made);
      settled = settled_after c.args.self.now.stage made (omega (arith, i.begun)) i.settled;
      rest = λ a m e. i.rest a m (Legal.dependent_injected _ _ _ _ _ _ _ _ _ _ _ c.injection_in-injection.ensures h.there own made e);
    }

pub inject-returns : goal.inject-returns
inject-returns g t c = c.loop-position.invariant.rest _ _ (Legal.no_more_points _ _ _ _ _ (omega arith))

pub invoke-frame-requires : goal.invoke-frame-requires
invoke-frame-requires g t c =
    let sound = c.in-Some.ensures.sound.sound in
    let runs : IsSoundAt (c.args.self.now.stage.promises) c.args.self.now.stage.scene c.seat_on-seat.result =
    rw c.seat_on-seat.ensures (sound.links c.args.passed.link _ c.args.id.number c.link.ensures) in
    let placed : IsPlaced c.args.self.now.stage.scene c.seat_on-seat.result = rw c.seat_on-seat.ensures (λ n e. c.requires.there) in
    search rules

pub invoke-returns-then-link-len : goal.invoke-returns-then-link-len
invoke-returns-then-link-len g t c =
    Legal.linked _ _ _ _ _ _ _ _ _ _ _ c.in-Some.ensures.sound.there c.link.ensures
    (rw c.seat_on-seat.ensures at c.in_ok-given.ensures)

pub invoke-returns-then-is_none : goal.invoke-returns-then-is_none
invoke-returns-then-is_none g t c =
    let all : length c.in-Some.invocable.now.chain ≤ c.args.passed.link = grind arith in
    let none : c.in-Some.invocable.now.part ≡ None = search rules in
    Legal.bare _ _ _ _ _ _ _ _ c.in-Some.ensures.sound.there all none

pub invoke-frame-requires-2 : goal.invoke-frame-requires-2
invoke-frame-requires-2 g t c =
    let sound = c.in-Some.ensures.sound.sound in
    let some = some_of c.in-Some.invocable.now.part (search rules) in
    let runs : IsSoundAt (c.args.self.now.stage.promises) c.args.self.now.stage.scene c.seat_on-seat-2.result =
    rw c.seat_on-seat-2.ensures (sound.target some.part c.args.id.number some.is) in
    let placed : IsPlaced c.args.self.now.stage.scene c.seat_on-seat-2.result = rw c.seat_on-seat-2.ensures (λ n e. c.requires.there) in
    search rules

pub invoke-returns : goal.invoke-returns
invoke-returns g t c =
    let all : length c.in-Some.invocable.now.chain ≤ c.args.passed.link = grind arith in
    let some = some_of c.in-Some.invocable.now.part (search rules) in
    Legal.targeted _ _ _ _ _ _ _ _ _ _ _ c.in-Some.ensures.sound.there all some.is (rw c.seat_on-seat-2.ensures at c.in_ok-given-2.ensures)

pub notify-returns-then-is_skipped : goal.notify-returns-then-is_skipped
notify-returns-then-is_skipped g t c =
    let h = c.scope_of-scope.ensures in
    Legal.skipped _ _ _ _ _ _ _ h.there c.in-Some.ensures.sound.there (rw h.scoped (c.is_skipped.ensures.0 c.if-is_skipped.true))
    c.in_ok-note.ensures.ok

pub notify_own-attend-requires : goal.notify_own-attend-requires
notify_own-attend-requires g t c =
    let p = rw c.in-Instance.is at c.in_ok-failure.ensures in
    let settled : IsSettled c.args.self.now.stage c.create.new.run.moment = settled_after c.args.self.now.stage p tt c.requires.settled in
    let has : HasDependents c.args.self.now.stage.scene c.create.new.run.moment.standing.live
    (at c.args.notified.bean c.in-Instance.number) =
    created c.args.self.now.stage p tt c.requires.settled in
    search rules

pub notify_own-returns-in-Refused : goal.notify_own-returns-in-Refused
notify_own-returns-in-Refused g t c =
    let w = c.requires.goes_on in
    Legal.unattended_own _ _ _ _ _ _ _ _ w.there c.requires.observer.there w.goes_on w.scoped
    (rw c.in-Refused.is at c.in_ok-failure.ensures)

pub notify_own-returns-in_ok-destroy-in-Instance : goal.notify_own-returns-in_ok-destroy-in-Instance
notify_own-returns-in_ok-destroy-in-Instance g t c =
    let w = c.requires.goes_on in
    Legal.attended_own _ _ _ _ _ _ _ _ _ _ _ w.there c.requires.observer.there w.goes_on w.scoped
    (rw c.in-Instance.is at c.in_ok-failure.ensures) c.in_ok-outcome-in-Instance.ensures
    c.in_ok-destroy-in-Instance.ensures.legal

pub notify_shared-attend-requires : goal.notify_shared-attend-requires
notify_shared-attend-requires g t c =
    let p = rw c.in-Instance.is at c.in_ok-failure.ensures in
    let settled : IsSettled c.args.self.now.stage c.obtain.new.run.moment = settled_after c.args.self.now.stage p tt c.requires.settled in
    let has : HasDependents c.args.self.now.stage.scene c.obtain.new.run.moment.standing.live
    (at c.args.notified.bean c.in-Instance.number) =
    obtained c.args.self.now.stage p c.requires.settled in
    search rules

pub notify_shared-returns-in-Refused : goal.notify_shared-returns-in-Refused
notify_shared-returns-in-Refused g t c =
    let w = c.requires.goes_on in
    Legal.unattended_shared _ _ _ _ _ _ _ _ w.there c.requires.observer.there w.goes_on w.scoped
    (rw c.in-Refused.is at c.in_ok-failure.ensures)

pub notify_shared-returns-in_ok-outcome-in-Instance : goal.notify_shared-returns-in_ok-outcome-in-Instance
notify_shared-returns-in_ok-outcome-in-Instance g t c =
    let w = c.requires.goes_on in
    Legal.attended_shared _ _ _ _ _ _ _ _ _ _ w.there c.requires.observer.there w.goes_on w.scoped
    (rw c.in-Instance.is at c.in_ok-failure.ensures) c.in_ok-outcome-in-Instance.ensures

pub obtain-returns-then-is_inactive : goal.obtain-returns-then-is_inactive
obtain-returns-then-is_inactive g t c =
    let h = c.scope_of-scope.ensures in
    Legal.inactive _ _ _ _ h.there (rw h.scoped (c.is_inactive.ensures.0 c.if-is_inactive.true))

pub obtain-returns-then-instance : goal.obtain-returns-then-instance
obtain-returns-then-instance g t c =
    let h = c.scope_of-scope.ensures in
    let no : IsInactive h.bean.scope c.args.run.now.moment → ⊥ =
    λ e. never _ _ c.is_inactive.ensures c.if-is_inactive.false (rw h.scoped at e) in
    Legal.present _ _ _ c.in-Some.instance _ h.there no (rw h.scoped (sym c.in-Some.ensures)) c.if-instance.true

pub obtain-returns-else-instance : goal.obtain-returns-else-instance
obtain-returns-else-instance g t c =
    let h = c.scope_of-scope.ensures in
    let no : IsInactive h.bean.scope c.args.run.now.moment → ⊥ =
    λ e. never _ _ c.is_inactive.ensures c.if-is_inactive.false (rw h.scoped at e) in
    Legal.creating _ _ _ c.in-Some.instance _ h.there no (rw h.scoped (sym c.in-Some.ensures)) c.if-instance.false

pub obtain-returns-in_ok-made-in-None : goal.obtain-returns-in_ok-made-in-None
obtain-returns-in_ok-made-in-None g t c =
    let h = c.scope_of-scope.ensures in
    let no : IsInactive h.bean.scope c.args.run.now.moment → ⊥ =
    λ e. never _ _ c.is_inactive.ensures c.if-is_inactive.false (rw h.scoped at e) in
    Legal.absent _ _ _ _ _ _ h.there no (rw h.scoped (sym c.in-None.ensures))
    (rw h.scoped (rw c.context_of.ensures at c.in_ok-made-in-None.ensures))

pub proceed-returns : goal.proceed-returns
proceed-returns g t c =
    Legal.proceeded _ _ (record { bean = c.args.seat.bean; number = c.in-Some.number }) _ _ _ _ _ _ _ _ _ c.in-Some.is refl
    c.in_ok-note.ensures.ok c.in_ok-given.ensures c.in_ok-note-2.ensures.ok

pub produce-frame-requires : goal.produce-frame-requires
produce-frame-requires g t c =
    let none : c.in_ok-supplied.supplied.failure ≡ None = grind arith in
    let p = rw (c.as_slice-params.ensures, none) at c.in_ok-supplied.ensures in
    let product = c.requires.product in
    let settled : IsSettled c.args.self.now.stage c.supply.new.run.moment =
    settled_after c.args.self.now.stage p c.requires.begun c.requires.settled in
    let served : IsServed c.args.self.now.stage.scene c.supply.new.run.moment.standing.live
    (seat_of_class c.args.product.now.declaring (Producer c.args.id.bean)) c.deref.result.now =
    rw c.deref.ensures.0
    (served_class c.args.self.now.stage c.args.id c.args.product.now product.there p c.requires.begun c.requires.settled) in
    search rules

pub produce-invoke-requires : goal.produce-invoke-requires
produce-invoke-requires g t c =
    let none : c.in_ok-supplied.supplied.failure ≡ None = grind arith in
    let p = rw (c.as_slice-params.ensures, none) at c.in_ok-supplied.ensures in
    let product = c.requires.product in
    let settled : IsSettled c.args.self.now.stage c.supply.new.run.moment =
    settled_after c.args.self.now.stage p c.requires.begun c.requires.settled in
    let has = rw c.in-Some-host.is at c.requires.has in
    let served : IsServed c.args.self.now.stage.scene c.supply.new.run.moment.standing.live
    (seat_on c.in-Some-host.host Target (Producer c.args.id.bean)) c.deref-in-Some-host.result.now =
    rw c.deref-in-Some-host.ensures.0
    (served_host c.args.self.now.stage c.args.id c.in-Some-host.host c.args.product.now product.there p c.requires.begun
    c.requires.settled has) in
    search rules

pub produce-returns-in-Some : goal.produce-returns-in-Some
produce-returns-in-Some g t c = Legal.unsupplied _ _ _ _ _ _ _ _ (rw (c.as_slice-params.ensures, c.in-Some.is) at c.in_ok-supplied.ensures)

pub produce-returns-in_ok-given-in-None : goal.produce-returns-in_ok-given-in-None
produce-returns-in_ok-given-in-None g t c =
    let none : c.in_ok-supplied.supplied.failure ≡ None = grind arith in
    rw c.in-None.is
    (Legal.run_statically _ _ _ _ _ _ _ _ _ (rw (c.as_slice-params.ensures, none) at c.in_ok-supplied.ensures)
    (rw c.deref.ensures.0 at c.in_ok-given-in-None.ensures))

pub produce-returns-in_ok-given-in-Some-host : goal.produce-returns-in_ok-given-in-Some-host
produce-returns-in_ok-given-in-Some-host g t c =
    let none : c.in_ok-supplied.supplied.failure ≡ None = grind arith in
    rw c.in-Some-host.is
    (Legal.run_on_host _ _ _ _ _ _ _ _ _ _ (rw (c.as_slice-params.ensures, none) at c.in_ok-supplied.ensures)
    (rw c.deref-in-Some-host.ensures.0 at c.in_ok-given-in-Some-host.ensures))

pub produce_on_own-produce-requires : goal.produce_on_own-produce-requires
produce_on_own-produce-requires g t c =
    let begun : c.args.id.number ≤ c.create.new.run.moment.standing.given =
    omega (arith, legal_grows c.in_ok-failure.ensures, c.requires.begun) in
    let p = rw c.in-Instance.is at c.in_ok-failure.ensures in
    let settled : IsSettled c.args.self.now.stage c.create.new.run.moment = settled_after c.args.self.now.stage p tt c.requires.settled in
    let has : HasDependents c.args.self.now.stage.scene c.create.new.run.moment.standing.live
    (at c.args.product.now.declaring c.in-Instance.number) =
    created c.args.self.now.stage p tt c.requires.settled in
    search rules

pub produce_on_own-returns-in-Refused : goal.produce_on_own-returns-in-Refused
produce_on_own-returns-in-Refused g t c =
    Legal.no_own_host _ _ _ _ _ _ _ c.requires.product.there c.requires.own c.requires.dependent.there c.requires.dependent.scoped
    (rw c.in-Refused.is at c.in_ok-failure.ensures)

pub produce_on_own-returns-in_ok-destroy-in-Instance : goal.produce_on_own-returns-in_ok-destroy-in-Instance
produce_on_own-returns-in_ok-destroy-in-Instance g t c =
    let h = c.scope_of.ensures in
    rw (c.produced.ensures, ← h.scoped)
    (Legal.produced_on_own _ _ _ _ _ _ _ _ _ _ _ h.there
    (form_of c.args.self.now.stage.scene c.args.id.bean h.bean c.args.product.now h.there c.requires.product.there) c.requires.own
    c.requires.dependent.there c.requires.dependent.scoped (rw c.in-Instance.is at c.in_ok-failure.ensures)
    c.in_ok-outcome-in-Instance.ensures c.in_ok-destroy-in-Instance.ensures.legal)

pub produce_on_shared-produce-requires : goal.produce_on_shared-produce-requires
produce_on_shared-produce-requires g t c =
    let begun : c.args.id.number ≤ c.obtain.new.run.moment.standing.given =
    omega (arith, legal_grows c.in_ok-failure.ensures, c.requires.begun) in
    let p = rw c.in-Instance.is at c.in_ok-failure.ensures in
    let settled : IsSettled c.args.self.now.stage c.obtain.new.run.moment = settled_after c.args.self.now.stage p tt c.requires.settled in
    let has : HasDependents c.args.self.now.stage.scene c.obtain.new.run.moment.standing.live
    (at c.args.product.now.declaring c.in-Instance.number) =
    obtained c.args.self.now.stage p c.requires.settled in
    search rules

pub produce_on_shared-returns-in-Refused : goal.produce_on_shared-returns-in-Refused
produce_on_shared-returns-in-Refused g t c =
    Legal.no_shared_host _ _ _ _ _ _ _ c.requires.product.there c.requires.own c.requires.normal.there c.requires.normal.scoped
    (rw c.in-Refused.is at c.in_ok-failure.ensures)

pub produce_on_shared-returns-in_ok-outcome-in-Instance : goal.produce_on_shared-returns-in_ok-outcome-in-Instance
produce_on_shared-returns-in_ok-outcome-in-Instance g t c =
    let h = c.scope_of.ensures in
    rw (c.produced.ensures, ← h.scoped)
    (Legal.produced_on_shared _ _ _ _ _ _ _ _ _ _ h.there
    (form_of c.args.self.now.stage.scene c.args.id.bean h.bean c.args.product.now h.there c.requires.product.there) c.requires.own
    c.requires.normal.there c.requires.normal.scoped (rw c.in-Instance.is at c.in_ok-failure.ensures)
    c.in_ok-outcome-in-Instance.ensures)

pub reach-returns-then-is_normal : goal.reach-returns-then-is_normal
reach-returns-then-is_normal g t c =
    let h = c.scope_of.ensures in
    let normal : is_normal h.bean.scope ≡ true = rw h.scoped (grind arith) in
    Legal.reached_shared _ _ _ _ _ _ _ _ h.there normal c.in_ok-made.ensures

pub reach-returns : goal.reach-returns
reach-returns g t c =
    let h = c.scope_of.ensures in
    let own : is_normal h.bean.scope ≡ false = rw h.scoped (grind arith) in
    Legal.reached_own _ _ _ _ _ _ _ h.there own (sym c.in-Some.ensures)

pub reach-unreachable-requires : goal.reach-unreachable-requires
reach-unreachable-requires g t c =
    let h = c.scope_of.ensures in
    let own : IsDependent c.args.self.now.stage.scene c.args.site.bean =
    record { bean = h.bean; there = h.there; scoped = rw h.scoped (grind arith) } in
    absurd (never_unmade c.args.self.now.stage c.args.run.now.moment c.args.seat c.args.held.now c.args.site c.requires.settled
    c.requires.served c.requires.named own (sym c.in-None.ensures))

pub set_up_managed-invoke-requires : goal.set_up_managed-invoke-requires
set_up_managed-invoke-requires g t c =
    let none : c.in_ok-failure.field-0 ≡ None = grind arith in
    let p = rw (c.as_slice-injections.ensures, none) at c.in_ok-failure.ensures in
    let low : c.args.id.number ≤ c.args.run.now.moment.standing.given = omega (arith, c.requires.newest) in
    let managed = c.requires.managed in
    let first : IsSettled c.args.self.now.stage c.inject.new.run.moment = settled_after c.args.self.now.stage p low c.requires.settled in
    let had = injected c.args.self.now.stage c.args.id c.args.managed.now managed.there p c.requires.newest c.requires.settled in
    let served : IsServed c.args.self.now.stage.scene c.inject.new.run.moment.standing.live (seat_on c.args.id Target Construct) [] =
    served_alone c.args.self.now.stage.scene c.inject.new.run.moment.standing.live c.args.id Construct had refl in
    search rules

pub set_up_managed-invoke-requires-in-Value : goal.set_up_managed-invoke-requires-in-Value
set_up_managed-invoke-requires-in-Value g t c =
    let none : c.in_ok-failure.field-0 ≡ None = grind arith in
    let p = rw (c.as_slice-injections.ensures, none) at c.in_ok-failure.ensures in
    let low : c.args.id.number ≤ c.args.run.now.moment.standing.given = omega (arith, c.requires.newest) in
    let managed = c.requires.managed in
    let first : IsSettled c.args.self.now.stage c.inject.new.run.moment = settled_after c.args.self.now.stage p low c.requires.settled in
    let had = injected c.args.self.now.stage c.args.id c.args.managed.now managed.there p c.requires.newest c.requires.settled in
    let settled : IsSettled c.args.self.now.stage c.invoke.new.run.moment =
    settled_after c.args.self.now.stage c.in_ok-built.ensures tt first in
    let served : IsServed c.args.self.now.stage.scene c.invoke.new.run.moment.standing.live (seat_on c.args.id Target Post) [] =
    served_alone c.args.self.now.stage.scene c.invoke.new.run.moment.standing.live c.args.id Post
    (has-after c.args.id c.in_ok-built.ensures tt first.rises had) refl in
    search rules

pub set_up_managed-returns-in-Some : goal.set_up_managed-returns-in-Some
set_up_managed-returns-in-Some g t c =
    Legal.uninjected _ _ _ _ _ _ c.requires.managed.there (rw (c.as_slice-injections.ensures, c.in-Some.is) at c.in_ok-failure.ensures)

pub set_up_managed-returns-then-not-built : goal.set_up_managed-returns-then-not-built
set_up_managed-returns-then-not-built g t c =
    let none : c.in_ok-failure.field-0 ≡ None = grind arith in
    let injected = rw (c.as_slice-injections.ensures, none) at c.in_ok-failure.ensures in
    let returned : c.in_ok-built.built.has_returned ≡ false = grind arith in
    Legal.not_constructed _ _ _ _ _ _ _ c.requires.managed.there injected
    (with_both _ _ _ _ _ _ _ _ c.in-Value.is returned c.in_ok-built.ensures)

pub set_up_managed-returns-in-Failed : goal.set_up_managed-returns-in-Failed
set_up_managed-returns-in-Failed g t c =
    let none : c.in_ok-failure.field-0 ≡ None = grind arith in
    let injected = rw (c.as_slice-injections.ensures, none) at c.in_ok-failure.ensures in
    Legal.construction_failed _ _ _ _ _ _ _ _ c.requires.managed.there injected
    (with_outcome _ _ _ _ _ _ _ c.in-Failed.is c.in_ok-built.ensures)

pub set_up_managed-returns-in_ok-done-in-Value : goal.set_up_managed-returns-in_ok-done-in-Value
set_up_managed-returns-in_ok-done-in-Value g t c =
    let none : c.in_ok-failure.field-0 ≡ None = grind arith in
    let injected = rw (c.as_slice-injections.ensures, none) at c.in_ok-failure.ensures in
    let returned : c.in_ok-built.built.has_returned ≡ true = grind arith in
    rw c.ignored.ensures
    (Legal.constructed _ _ _ _ _ _ _ _ _ _ c.requires.managed.there injected
    (with_both _ _ _ _ _ _ _ _ c.in-Value.is returned c.in_ok-built.ensures) c.in_ok-done-in-Value.ensures)

pub set_up_product-returns-then-product : goal.set_up_product-returns-then-product
set_up_product-returns-then-product g t c =
    let h = c.scope_of.ensures in
    rw (c.produced.ensures, ← h.scoped)
    (Legal.produced_statically _ _ _ _ _ _ _ h.there
    (form_of c.args.self.now.stage.scene c.args.id.bean h.bean c.args.product.now h.there c.requires.product.there) c.if-product.true
    c.in_ok-outcome.ensures)

pub supply-loop-param-preserved-then-is_normal : goal.supply-loop-param-preserved-then-is_normal
supply-loop-param-preserved-then-is_normal g t c =
    let h = c.scope_of.ensures in
    let normal : is_normal h.bean.scope ≡ true = rw h.scoped (grind arith) in
    let i = c.loop-param.invariant in
    let more : length c.push.new.self.items ≡ length c.loop-param.held.items + 1 = grind (arith, common_steps) in
    record {
      begun = i.begun;
      settled = i.settled;
      count = omega (arith, more, i.count);
      rest = λ a m e.
          i.rest a m
          (Legal.proxy_supplied _ _ _ _ _ _ _ _ _ _ c.bean_in-bean.ensures h.there normal (rw c.push.ensures.items at e));
    }

pub supply-returns-in-Refused : goal.supply-returns-in-Refused
supply-returns-in-Refused g t c =
    let h = c.scope_of.ensures in
    let own : is_normal h.bean.scope ≡ false = rw h.scoped (grind arith) in
    c.loop-param.invariant.rest _ _
    (Legal.supply_failed _ _ _ _ _ _ _ _ _ _ c.bean_in-bean.ensures h.there own
    (rw (c.in-Refused.is, c.owner_of_param-owner.ensures) at c.in_ok-number.ensures))

pub supply-loop-param-preserved : goal.supply-loop-param-preserved
supply-loop-param-preserved g t c =
    let h = c.scope_of.ensures in
    let own : is_normal h.bean.scope ≡ false = rw h.scoped (grind arith) in
    let i = c.loop-param.invariant in
    let made = rw (c.in-Instance.is, c.owner_of_param-owner.ensures) at c.in_ok-number.ensures in
    let more : length c.push-in-Instance.new.self.items ≡ length c.loop-param.held.items + 1 = grind (arith, common_steps) in
    record {
      begun = begun_grows _ _ _ (legal_grows made) i.begun;
      settled = settled_after c.args.self.now.stage made (owned_by_param _ _ _ i.begun) i.settled;
      count = omega (arith, more, i.count);
      rest = λ a m e.
          i.rest a m
          (Legal.dependent_supplied _ _ _ _ _ _ _ _ _ _ _ _ c.bean_in-bean.ensures h.there own made
          (rw c.push-in-Instance.ensures.items at e));
    }

pub supply-returns : goal.supply-returns
supply-returns g t c = c.loop-param.invariant.rest _ _ (Legal.no_more_params _ _ _ _ _ _ (omega arith))
