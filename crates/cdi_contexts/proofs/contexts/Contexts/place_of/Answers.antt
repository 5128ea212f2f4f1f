use Rattle.std.proofs.{Common.rules, lemmas.List.Sorted.answers_always}
use Rattle.cdi_contexts.proofs.Places.{placed}
use Rattle.cdi_contexts.proofs.contexts.Contexts.place_of.Goals as goal

pub returns : goal.returns
returns c =
    let inside = c.self.inside in
    let facts = c.binary_search_by_key-searched.ensures in
    let by_number = facts.position (λ instance. instance.id.number) (answers_always _ _ _ (λ f a r g called. search rules)) in
    let found = placed inside.given c.args.number inside.live.items c.binary_search_by_key-searched.result c.self.invariant.0 in
    rw (c.ok.ensures.value, ← c.self.view_is)
    (found (rw (← c.deref.ensures.value) facts.bound) (rw (← c.deref.ensures.value) by_number))
