use Rattle.cdi_container.proofs.Common.{sym, ap, ◌∙◌, EventKey, wanted, can_be_fired, keys_of_event, Deployed}
use Rattle.cdi_container.proofs.AskedLemmas.{ends_without_memory, own_ends, some-all, event-apart, event-faulty, event-own, event-some}
use Rattle.cdi_container.proofs.AskedLemmas.{event-unknown, wanted-apart}
use Rattle.cdi_container.proofs.deployment.Deployment.notified.Goals as goal

pub returns-in_err-count-clause-asked : goal.returns-in_err-count-clause-asked
returns-in_err-count-clause-asked g c =
    let d = c.args.self.now in
    ends_without_memory c.from_residual.result (keys_of_event d.decls d.book c.args.event_type c.args.quals.now) d c.wire.new.self
    c.from_residual.ensures.1 (event-some d c.args.event_type c.args.quals.now c.wire.new.self c.in_err-count.ensures.err)

pub returns-then-count-ne0-clause-asked : goal.returns-then-count-ne0-clause-asked
returns-then-count-ne0-clause-asked g c =
    event-faulty c.args.self.now c.args.event_type c.args.quals.now c.wire.new.self c.in_ok-count.count c.in_ok-count.ensures.count
    c.if-count-ne0.true c.in_ok-count.ensures.asked

pub returns-then-not-can_be_fired-clause-asked : goal.returns-then-not-can_be_fired-clause-asked
returns-then-not-can_be_fired-clause-asked g c =
    event-unknown c.args.self.now c.args.event_type c.args.quals.now c.wire.new.self
    (sym (c.can_be_fired.ensures ∙ ap (λ ds. can_be_fired ds c.args.event_type c.args.quals.now)
    (c.decls.ensures.value ∙ ap (λ (d : Deployed). d.decls) c.self.view_is ∙ c.wire.ensures.decls)) ∙ c.if-not-can_be_fired.true)
    c.in_ok-count.ensures.asked

pub returns-clause-asked : goal.returns-clause-asked
returns-clause-asked g c =
    let d = c.args.self.now in
    let keys = keys_of_event d.decls d.book c.args.event_type c.args.quals.now in
    own_ends c.notified_wired.result (EventKey c.args.event_type c.args.quals.now) keys d c.wire.new.self c.notified_wired.new.self
    (event-some d c.args.event_type c.args.quals.now c.wire.new.self
    (some-all (wanted d.decls) d c.wire.new.self (wanted-apart d.decls) c.in_ok-count.ensures.asked))
    (λ asked. event-own d c.args.event_type c.args.quals.now c.wire.new.self c.notified_wired.new.self c.wire.ensures.order
    (sym c.in_ok-count.ensures.count ∙ c.if-count-ne0.false)
    (sym (c.can_be_fired.ensures ∙ ap (λ ds. can_be_fired ds c.args.event_type c.args.quals.now)
    (c.decls.ensures.value ∙ ap (λ (x : Deployed). x.decls) c.self.view_is ∙ c.wire.ensures.decls)) ∙ c.if-not-can_be_fired.false)
    c.in_ok-count.ensures.asked asked)
    (event-apart d c.args.event_type c.args.quals.now) c.notified_wired.ensures.asked
