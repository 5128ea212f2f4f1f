use Rattle.cdi_text.proofs.Common.{◌≡◌, Some, option_and_then, sym, get_member, as_array, table_view, array_view}
use Rattle.cdi_text.proofs.Soundness.{events_at, events_short}
use Rattle.cdi_text.proofs.checked.Checked.events.Goals as goal

pub events_of-requires-clause-texts : goal.events_of-requires-clause-texts
events_of-requires-clause-texts c =
    let self = c.args.self.now in
    let found : option_and_then as_array (get_member c.args.key.now (table_view self.table.now))
    ≡ Some (array_view c.in-Some.items.now) = sym (rw c.in-Some.is at c.list_at.ensures) in
    events_at self.schema c.args.key.now (array_view c.in-Some.items.now) (table_view self.table.now) self.sound c.requires found

pub events_of-requires-clause-short : goal.events_of-requires-clause-short
events_of-requires-clause-short c =
    let self = c.args.self.now in
    let found : option_and_then as_array (get_member c.args.key.now (table_view self.table.now))
    ≡ Some (array_view c.in-Some.items.now) = sym (rw c.in-Some.is at c.list_at.ensures) in
    events_short self.schema c.args.key.now (array_view c.in-Some.items.now) (table_view self.table.now) self.sound c.requires found
