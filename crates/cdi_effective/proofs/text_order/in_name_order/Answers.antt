use Rattle.cdi_effective.proofs.Common.{◌≡◌, Bool, List, ap, ◌∙◌, Bor, Qual, uses_in, nat_list_cmp_total, is_lt, ranks_by, sorted_by}
use Rattle.cdi_effective.proofs.Common.{is_before_in_name, rules, always_returns_same}
use Rattle.cdi_effective.proofs.SortLemmas.{sorted_from_sort, sorted_map}
use Rattle.cdi_effective.proofs.text_order.in_name_order.Goals as goal

abbrev by_name : Bor Qual → Bor Qual → Bool
by_name x y = is_before_in_name x.now y.now

pub returns : goal.returns
returns c =
    let sort = c.in_ok-sort_by.ensures in
    let order = ranks_by nat_list_cmp_total (λ (x : Bor Qual). x.now.name) in
    let compares = always_returns_same _ (λ a r. is_lt r ≡ by_name a.0.now a.1.0.now) _ (λ a r q k. search rules) in
    let before : List (Bor Qual) = c.in_ok-list.list.items in
    let after : List (Bor Qual) = c.sort_by.new.self.items in
    let sorted : after ≡ sorted_by by_name before = sorted_from_sort by_name order before after
    (sort.sorted by_name order compares) (sort.stable by_name order compares) in
    ap uses_in sorted ∙ sorted_map (λ (x : Bor Qual). x.now) is_before_in_name before
    ∙ ap (λ l. sorted_by is_before_in_name (uses_in l)) c.in_ok-list.ensures.items
