use Rattle.cdi_observe.proofs.Common.{◌++◌, map, sym, ap, ◌∙◌, flat_map, append_assoc, asked_key, event_in, shown}
use Rattle.cdi_observe.proofs.keys.push_events.Goals as goal

pub loop-mention-preserved : goal.loop-mention-preserved
loop-mention-preserved c =
    let own = event_in (shown c.in-Some.mention) in
    let left = flat_map event_in c.next.new.self in
    let olds = map asked_key c.loop-mention.list.items in
    ap (λ keys. keys ++ left) c.in_ok-push_event.ensures
    ∙ append_assoc olds own left
    ∙ ap (λ keys. olds ++ keys) (sym (ap (flat_map event_in) c.in-Some.ensures.steps))
    ∙ c.loop-mention.invariant
