use Rattle.cdi_text.proofs.Common.{ap, ◌∙◌, sym, string_bytes, ◌≡◌, ℕ, Some, get_item, view, items_view, array_view, table_view, shape_of}
use Rattle.cdi_text.proofs.ParamLemmas.{item_at}
use Rattle.cdi_text.proofs.WayLemmas.{by_next, by_found, has_next, has_later, without_next}
use Rattle.cdi_text.proofs.places.+ways.Goals as goal

pub way_in_items-returns-in-Some : goal.way_in_items-returns-in-Some
way_in_items-returns-in-Some t c = λ all.
    let i : ℕ = c.loop-index.index in
    let same : c.deref-value-items.result.now ≡ c.args.items.now.items = c.deref-value-items.ensures.value in
    let at : get_item i (array_view c.args.items.now) ≡ Some (view c.value-item.result) =
    ap (λ vs. get_item i (items_view vs)) (sym same)
    ∙ item_at c.deref-value-items.result.now i c.value-item.result c.loop-index-test.true ∙ ap (λ v. Some (view v)) (sym c.value-item.is) in
    by_found c.args.condition c.args.schema (array_view c.args.items.now) i (view c.value-item.result) c.in_ok-way.field-0 c.in-Some.way
    c.in_ok-after.field-0 all at c.in-Some.is c.in_ok-way.ensures c.in_ok-after.ensures

pub way_in_table-returns-in-Some-3 : goal.way_in_table-returns-in-Some-3
way_in_table-returns-in-Some-3 t c =
    let key = c.in-Some-2.key.now in
    let d = view c.in-Some-2.value.now in
    let here = has_next c.loop-key.key-iterator c.next.new.self key c.in-Some-2.value.now c.in-Some-2.ensures.steps in
    by_next c.args.condition c.args.schema (table_view c.args.table.now) key d c.shape_of-shape.result c.as_str-in-Some-3.result.now
    c.in_ok-way-2.field-0 c.in-Some-3.way c.in_ok-to_key.field-0 (c.loop-key.invariant.1 (string_bytes key) d here)
    (c.shape_of-shape.ensures ∙ ap (shape_of c.args.schema) c.as_str.ensures.value) c.as_str-in-Some-3.ensures.value c.in-Some-3.is
    c.in_ok-way-2.ensures c.in_ok-to_key.ensures

pub way_in_table-loop-key-preserved : goal.way_in_table-loop-key-preserved
way_in_table-loop-key-preserved t c =
    let key = c.in-Some-2.key.now in
    let v = c.in-Some-2.value.now in
    let steps = c.in-Some-2.ensures.steps in (
      without_next c.args.condition c.args.schema c.loop-key.key-iterator c.next.new.self key v c.shape_of-shape.result
          c.in_ok-way-2.field-0
          steps (c.shape_of-shape.ensures ∙ ap (shape_of c.args.schema) c.as_str.ensures.value) c.in_default-2.is c.in_ok-way-2.ensures
          ∙ c.loop-key.invariant.0,
      λ bytes d h. c.loop-key.invariant.1 bytes d (has_later c.loop-key.key-iterator c.next.new.self key v bytes d steps h),
    )
