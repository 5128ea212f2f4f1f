use Rattle.std.proofs.Common.{◌≡◌, ap, ◌∙◌, rules, Option}
use Rattle.std.specs.{Borrow.Bor, Cmp.int_cmp_total, Cmp.Lexicographic.options_total, Prelude.ℤ}
use Rattle.std.proofs.lemmas.{Fn.always_returns_same, List.Sorted.ranks_by}
use Rattle.cdi_model.specs.declared.decl.InterceptorDecl.{InterceptorDecl}
use Rattle.cdi_effective.proofs.SortLemmas.{sorted_from_sort, sorted_map}
use Rattle.cdi_intercept.specs.{Chains.is_before, Lent.lent_in}
use Rattle.cdi_intercept.proofs.chain.sorted_by_priority.Goals as goal

abbrev key : Bor InterceptorDecl → Option ℤ
key i = i.now.priority

pub returns : goal.returns
returns c =
    let sort = c.in_ok-sort_by_key.ensures in
    let sorted = sort.sorted key (always_returns_same _ (λ a r. r ≡ key a.0.now) _ (λ a r q k. search rules)) in
    let stable = sort.stable key (always_returns_same _ (λ a r. r ≡ key a.0.now) _ (λ a r q k. search rules)) in
    let order = ranks_by (options_total int_cmp_total) key in
    ap lent_in (sorted_from_sort (λ x y. is_before x.now y.now) order _ _ sorted stable)
    ∙ sorted_map (λ (i : Bor InterceptorDecl). i.now) is_before c.args.list.items
