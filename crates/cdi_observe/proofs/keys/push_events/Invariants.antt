use Rattle.cdi_observe.proofs.Common.{◌≡◌, ◌++◌, map, flat_map, events_by, asked_key, event_in}
use Rattle.cdi_observe.proofs.keys.push_events.Given as goal

abbrev pub invariant-loop-mention : goal.invariant-loop-mention
invariant-loop-mention l = map asked_key l.list.items ++ flat_map event_in l.mention-iterator
    ≡ map asked_key l.fn.list.items ++ events_by l.decl
