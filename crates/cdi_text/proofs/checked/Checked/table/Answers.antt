use Rattle.cdi_text.proofs.Common.{◌≡◌, Some, sym, get_member, view, table_view}
use Rattle.cdi_text.proofs.Soundness.{table_at}
use Rattle.cdi_text.proofs.checked.Checked.table.Goals as goal

pub spelled_by-requires : goal.spelled_by-requires
spelled_by-requires g c =
    let self = c.args.self.now in
    let found : get_member c.args.key.now (table_view self.table.now) ≡ Some (view c.in-Some.value.now) =
    sym (rw c.in-Some.is at c.value_at.ensures) in
    table_at self.schema g.T.FromTable.schema_is c.args.key.now (view c.in-Some.value.now) (table_view self.table.now) self.sound
    c.requires found
