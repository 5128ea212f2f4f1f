use Rattle.cdi_text.proofs.WayLemmas.{bad_at}
use Rattle.cdi_text.proofs.places.first_bad_entry.Goals as goal

pub returns-then-branch : goal.returns-then-branch
returns-then-branch c = bad_at c.args.condition c.args.item c.deref-value-items.result.now c.args.items.now.items c.loop-index.index
    c.value-item.result c.in_ok-value_has.field-0 c.deref-value-items.ensures.value c.loop-index-test.true c.value-item.is c.if-branch.true
    c.in_ok-value_has.ensures
