use Rattle.cdi_index.proofs.Common.{◌≡◌, ℕ, nat_eq}
use Rattle.std.proofs.Common.{rules}
use Rattle.std.proofs.lemmas.Fn.{always_returns_same, dedup_same}
use Rattle.cdi_index.specs.declared.shelf.Entry.{Entry}
use Rattle.cdi_index.proofs.InOrderLemmas.{sorted-entries}
use Rattle.cdi_index.proofs.under.in_order.Goals as goal

abbrev key : Entry → ℕ
key e = e.number

pub returns : goal.returns
returns c =
    sorted-entries c.args.list.items c.sort_unstable_by_key.new.self.items c.dedup_by_key.new.self.items c.sort_unstable_by_key.ensures.permutation
    (c.sort_unstable_by_key.ensures.sorted key (always_returns_same _ (λ a r. r ≡ key a.0.now) _ (λ a r q k. search rules)))
    (dedup_same _ (λ x y. nat_eq x.number y.number) _ (λ x y b f x1 y1 k. search rules) _ _ c.dedup_by_key.ensures.filtered)
