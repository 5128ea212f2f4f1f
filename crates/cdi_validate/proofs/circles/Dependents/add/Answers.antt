use Rattle.cdi_validate.proofs.Common.{ap, ◌∙◌, cond, Some, bytes_eq, get, byte_order, at_name, text_of_id}
use Rattle.std.specs.BTreeMap.{insert_entry}
use Rattle.cdi_validate.proofs.NumberLemmas.{AreNumbered-more}
use Rattle.cdi_validate.specs.Needed.{bean_id}
use Rattle.cdi_validate.proofs.circles.Dependents.add.Goals as goal

pub returns : goal.returns
returns c = λ entries numbered.
    let old = c.args.self.now in
    let id = bean_id c.args.class c.args.producer in
    let key = c.in_ok-text_of.field-0 in
    let n = c.len-number.result in
    AreNumbered-more entries old (record { ids = c.push.new.self; numbers = c.insert.new.self }) (text_of_id id) id numbered
    c.in_ok-push.ensures.ok
    (c.in_ok-insert.ensures.entries ∙ ap (λ text. insert_entry byte_order old.numbers.entries text n) c.in_ok-text_of.ensures
    ∙ ap (insert_entry byte_order old.numbers.entries (text_of_id id)) c.len-number.ensures)
    (λ x. c.in_ok-insert.ensures.updates.0 x ∙ ap (λ b. cond b (Some n) (get byte_order old.numbers x)) (at_name key x)
    ∙ ap (λ text. cond (bytes_eq text x) (Some n) (get byte_order old.numbers x)) c.in_ok-text_of.ensures
    ∙ ap (λ n. cond (bytes_eq (text_of_id id) x) (Some n) (get byte_order old.numbers x)) c.len-number.ensures)
