use Rattle.cdi_observe.proofs.Common.{◌≡◌, ap, ◌∙◌, lent_in}
use Rattle.std.proofs.{Common.rules, lemmas.Fn.always_returns_same, lemmas.List.Sorted.ranks_by}
use Rattle.std.specs.{Cmp.int_cmp_total, Prelude.ℤ}
use Rattle.cdi_effective.proofs.SortLemmas.{sorted_from_sort, sorted_map}
use Rattle.cdi_observe.specs.{declared.lent_observers.LentObserver.LentObserver, Lent.lent_at, Observers.is_before, Observers.priority_of}
use Rattle.cdi_observe.proofs.lent_observers.in_order.Goals as goal

abbrev key : LentObserver → ℤ
key observer = priority_of observer.method.now

pub returns : goal.returns
returns c =
    let sort = c.in_ok-sort_by_key.ensures in
    let sorted = sort.sorted key (always_returns_same _ (λ a r. r ≡ key a.0.now) _ (λ a r q k. search rules)) in
    let stable = sort.stable key (always_returns_same _ (λ a r. r ≡ key a.0.now) _ (λ a r q k. search rules)) in
    let order = ranks_by int_cmp_total key in
    ap lent_in (sorted_from_sort (λ x y. is_before (lent_at x) (lent_at y)) order _ _ sorted stable)
    ∙ sorted_map lent_at is_before c.args.list.items
