use Rattle.cdi_match.proofs.Common.{ap, ◌∙◌, sym, subst, bytes_eq, byte_order, IsStrictlySortedBy, list_any}
use Rattle.std.specs.Cmp.Lexicographic.{nat_list_cmp_total, texts_ties}
use Rattle.std.proofs.lemmas.List.Filters.{dedup_is}
use Rattle.std.proofs.lemmas.List.Kept.{IsStrictlySortedBy-dedup}
use Rattle.std.proofs.lemmas.List.Sorted.{list_any-IsPermutation}
use Rattle.cdi_match.proofs.Names.{has-dedup}
use Rattle.cdi_match.proofs.walk.each_once.Goals as goal

pub returns-clause-names : goal.returns-clause-names
returns-clause-names c = λ name.
    ap (λ names. list_any (λ n. bytes_eq n name) names) (dedup_is bytes_eq c.sort_unstable.new.self.items c.dedup.new.self.items c.dedup.ensures.filtered)
    ∙ has-dedup c.sort_unstable.new.self.items name
    ∙ sym (list_any-IsPermutation (λ n. bytes_eq n name) c.args.names.items c.sort_unstable.new.self.items c.sort_unstable.ensures.permutation)

pub returns-clause-order : goal.returns-clause-order
returns-clause-order c =
    subst (IsStrictlySortedBy byte_order) (sym (dedup_is bytes_eq c.sort_unstable.new.self.items c.dedup.new.self.items c.dedup.ensures.filtered))
    (IsStrictlySortedBy-dedup nat_list_cmp_total texts_ties c.sort_unstable.new.self.items c.sort_unstable.ensures.sorted)
