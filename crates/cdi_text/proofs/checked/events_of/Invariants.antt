use Rattle.cdi_text.proofs.Common.{◌≡◌, false, ◌++◌, drop, items_view, Event, misspell, some_is_long, events_in}
use Rattle.cdi_text.proofs.checked.events_of.Given as goal

abbrev pub invariant-loop-value : goal.invariant-loop-value
invariant-loop-value l =
    let rest = items_view (drop l.value-index l.items.items) in
    record {
      read : l.events ++ events_in rest ≡ events_in (items_view l.items.items);
      spelt : misspell Event rest ≡ false;
      short : some_is_long Event rest ≡ false;
    }
