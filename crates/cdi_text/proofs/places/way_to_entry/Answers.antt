use Rattle.cdi_text.proofs.Common.{IfOk-weaker, array_view}
use Rattle.cdi_text.proofs.WayLemmas.{to_entry}
use Rattle.cdi_text.proofs.places.way_to_entry.Goals as goal

pub returns-in-Some : goal.returns-in-Some
returns-in-Some c = λ has. IfOk-weaker c.after.result _ _ (λ way by.
    to_entry c.args.condition c.args.item (array_view c.args.items.now) c.in-Some.index c.in_ok-index.field-0 way.items c.new.result.items
    c.in-Some.is c.in_ok-index.ensures c.new.ensures.items by) c.after.ensures
