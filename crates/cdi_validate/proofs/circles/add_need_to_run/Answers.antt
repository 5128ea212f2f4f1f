use Rattle.cdi_validate.proofs.Common.{◌++◌, sym, ap, ◌∙◌, get, byte_order, managed_id, text_of_id, IfOk-weaker}
use Rattle.cdi_validate.proofs.NeedLemmas.{edge-drawn}
use Rattle.cdi_validate.specs.Circles.{product_id}
use Rattle.cdi_validate.proofs.circles.add_need_to_run.Goals as goal

pub returns : goal.returns
returns c =
    let numbers = c.args.dependents.now.numbers in
    IfOk-weaker c.push_edge.result _ _ (λ done e. e ∙ ap (λ es. c.args.edges.now.items ++ es)
    (edge-drawn numbers (text_of_id (product_id c.args.bean.now c.args.producer)) (text_of_id (managed_id c.args.bean.now))
    c.in-Some.from c.in_ok-number.field-0
    (sym (c.in_ok-from.ensures ∙ ap (λ id. get byte_order numbers (text_of_id id)) c.product_id.ensures) ∙ c.in-Some.is)
    (sym (c.in_ok-number.ensures ∙ ap (λ id. get byte_order numbers (text_of_id id)) c.managed_id.ensures))))
    c.push_edge.ensures
