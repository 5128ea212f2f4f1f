use Rattle.std.proofs.Common.{rules, ◌∙◌, ap, refl, leb, List}
use Rattle.std.proofs.lemmas.List.Sorted.{IsPartitionPoint-from_clause}
use Rattle.cdi_contexts.proofs.Last.{young_if}
use Rattle.cdi_contexts.proofs.Younger.{parted_along, younger_along, last_young}
use Rattle.cdi_contexts.specs.{Standing.last_of, declared.instance.Instance.Instance}
use Rattle.cdi_contexts.proofs.contexts.Contexts.younger.Goals as goal

pub returns-clause-value : goal.returns-clause-value
returns-clause-value c =
    let inside = c.self.inside in
    let live = inside.live.items in
    let first = c.partition_point-first.result in
    let facts = c.partition_point-first.ensures in
    let low = λ (i : Instance). leb i.id.number c.args.number in
    let parted = parted_along inside.given c.args.number live c.deref.result.now c.deref.ensures.value c.self.invariant.0 in
    let called = IsPartitionPoint-from_clause low c.deref.result.now first facts.partitioned parted in
    let point = called (λ a r f' called. search rules) in
    let along = younger_along c.args.number live c.deref.result.now c.deref-2.result.now first in
    rw (← c.self.view_is) (along c.deref.ensures.value c.deref-2.ensures.value facts.bound point)

pub returns-clause-last : goal.returns-clause-last
returns-clause-last c =
    let inside = c.self.inside in
    let young = returns-clause-value c in
    ap (λ (is : List Instance). last_of is c.args.number) young
    ∙ rw (← c.self.view_is) (last_young inside.given c.args.number inside.live.items c.self.invariant.0)

pub returns-clause-lives : goal.returns-clause-lives
returns-clause-lives c =
    let inside = c.self.inside in
    rw (← c.self.view_is)
    (young_if inside.given c.args.number inside.live.items (last_of inside.live.items c.args.number) c.self.invariant.0 refl)
