use Rattle.cdi_effective.proofs.Common.{sym, ap, ◌∙◌, uses_in, sorted_by, in_text_order, is_before_in_name, is_before_in_text, tell_order}
use Rattle.cdi_effective.proofs.Common.{IfOk-weaker}
use Rattle.cdi_effective.proofs.NameOrderLemmas.{in-order-by-names}
use Rattle.cdi_effective.proofs.text_order.in_text_order.Goals as goal

pub returns-then-tell_order : goal.returns-then-tell_order
returns-then-tell_order c =
    in-order-by-names (uses_in c.args.uses.now) (uses_in c.in_ok-list.list.items)
    (c.in_ok-list.ensures ∙ ap (λ l. sorted_by is_before_in_name (uses_in l)) c.deref.ensures.value
    ∙ ap (sorted_by is_before_in_name) c.in_ok-once.ensures)
    (ap (λ l. tell_order (uses_in l)) (sym c.deref-2.ensures.value) ∙ sym c.tell_order.ensures ∙ c.if-tell_order.true)

pub returns : goal.returns
unfolding in_text_order
returns c =
    IfOk-weaker c.by_texts.result _ _ (λ list is. is
    ∙ ap (λ l. sorted_by is_before_in_text (uses_in l)) c.deref-3.ensures.value
    ∙ ap (sorted_by is_before_in_text) c.in_ok-once.ensures)
    c.by_texts.ensures
