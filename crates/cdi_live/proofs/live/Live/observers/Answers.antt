use Rattle.cdi_live.proofs.Common.{◌≡◌, sym, ap, ◌∙◌, subst, EventKey, knows_in, Memos, after_key, after_known, kept_in, State}
use Rattle.base_options.proofs.Results.{OnOk-from}
use Rattle.cdi_live.proofs.LiveLemmas.{kept-after, kept-with-event, keeping, known-with-event}
use Rattle.cdi_live.proofs.live.Live.observers.Goals as goal

pub returns-in-Some-clause-kept : goal.returns-in-Some-clause-kept
returns-in-Some-clause-kept c =
    OnOk-from c.share.result
    (sym (after_known c.args.self.now.decls (EventKey c.args.event_type c.args.quals.now) (kept_in c.args.self.now)
    (sym c.in-Some.ensures.known)))

pub invariant_of-self-2 : goal.invariant_of-self-2
invariant_of-self-2 c = record {
  default = c.self.invariant.default;
  kept = kept-with-event c.self.inside.index.decls c.self.inside.memos c.evaluate_event.new.events c.args.event_type c.args.quals.now
      c.in_ok-ids.ids c.in_ok-ids.ensures.kept c.in_ok-ids.ensures.observers c.self.invariant.kept;
  shared = c.in_ok-ids.ensures.lists;
  staged = tt;
}

pub returns-clause-kept : goal.returns-clause-kept
returns-clause-kept c =
    let ds = c.self.inside.index.decls in
    let memos = c.self.inside.memos in
    let t = c.args.event_type in
    let us = c.args.quals.now in
    let new : Memos = record { choices = memos.choices; chains = memos.chains; events = c.evaluate_event.new.events } in
    subst (λ (s : State). keeping (knows_in new) c.evaluate_event.new.work ≡ after_key s.decls (EventKey t us) (kept_in s)) c.self.view_is
    (kept-after ds (knows_in memos) (knows_in new) c.self.inside.work c.evaluate_event.new.work (EventKey t us)
    (known-with-event ds memos c.evaluate_event.new.events t us c.in_ok-ids.ids c.in_ok-ids.ensures.kept)
    (c.in_default.ensures.known ∙ ap (λ (s : State). knows_in s.memos (EventKey t us)) (sym c.self.view_is))
    c.in_ok-ids.ensures.work)
