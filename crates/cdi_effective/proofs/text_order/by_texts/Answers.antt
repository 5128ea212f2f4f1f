use Rattle.cdi_effective.proofs.Common.{◌≡◌, ℕ, Bool, List, ap, ◌∙◌, Qual, nat_list_cmp_total, is_lt, ranks_by, byte_order, sorted_by}
use Rattle.cdi_effective.proofs.Common.{is_before_in_text, rules, IfOk-weaker, always_returns_same, written_in}
use Rattle.cdi_effective.proofs.SortLemmas.{sorted_from_sort, sorted_map}
use Rattle.cdi_effective.specs.declared.written.Written.{Written}
use Rattle.cdi_effective.proofs.text_order.by_texts.Goals as goal

abbrev text : Written → List ℕ
text w = w.text.items

abbrev binding : Written → Qual
binding w = w.binding.now

-- by the text that stands beside a binding, and by its own
abbrev by_text : Written → Written → Bool
by_text x y = is_lt (byte_order (text x) (text y))

abbrev by_binding : Written → Written → Bool
by_binding x y = is_before_in_text (binding x) (binding y)

same-order : by_text ≡ by_binding
same-order i x y = is_lt (byte_order (x.spelled i) (y.spelled i))

pub returns : goal.returns
returns c =
    let sort = c.in_ok-sort_by.ensures in
    let order = ranks_by nat_list_cmp_total text in
    let compares = always_returns_same _ (λ a r. is_lt r ≡ by_text a.0.now a.1.0.now) _ (λ a r q k. search rules) in
    let before : List Written = c.in_ok-list.list.items in
    let after : List Written = c.sort_by.new.self.items in
    let sorted : after ≡ sorted_by by_text before = sorted_from_sort by_text order before after
    (sort.sorted by_text order compares) (sort.stable by_text order compares) in
    IfOk-weaker c.without_texts.result _ _ (λ list is. is
    ∙ ap written_in (c.deref.ensures.value ∙ sorted ∙ ap (λ lt. sorted_by lt before) same-order)
    ∙ sorted_map binding is_before_in_text before
    ∙ ap (sorted_by is_before_in_text) c.in_ok-list.ensures)
    c.without_texts.ensures
