use Rattle.cdi_index.proofs.Common.{List, Some, None, refl, ap, ◌∙◌, Decl, key_at, made_of, stored, made_in, keys_changed, made_after}
use Rattle.cdi_index.proofs.Common.{records_in, lent}
use Rattle.cdi_model.specs.declared.decl.Kind.TheVariants as kinds
use Rattle.cdi_index.proofs.ReplacedLemmas.{lent-of}
use Rattle.cdi_index.proofs.ToldLemmas.{made-applied}
use Rattle.cdi_index.proofs.next_index.NextIndex.records.Goals as goal

pub made_after-requires : goal.made_after-requires
made_after-requires c = ap keys_changed c.as_slice-in-None.ensures.value ∙ c.self.invariant.affected

pub returns-in-Some : goal.returns-in-Some
returns-in-Some c =
    let next = c.self.inside.slots.next.now in
    let key = key_at kinds.Bean c.args.class.now in
    c.as_slice.ensures
    ∙ lent-of next.decls c.args.class.now (Some c.in-Some.records.now) (made_of next.decls key)
    (c.in-Some.ensures ∙ c.self.invariant.turned key) refl
    ∙ ap (λ (d : List Decl). records_in d c.args.class.now) c.self.view_is

pub returns-in-None : goal.returns-in-None
returns-in-None c =
    let next = c.self.inside.slots.next.now in
    let shelf = c.self.inside.slots.shelf.now in
    let key = key_at kinds.Bean c.args.class.now in
    c.own_records.ensures
    ∙ ap (lent None)
    (c.made_after.ensures ∙ ap (λ cs. made_after cs (made_in (stored shelf key)) key) c.as_slice-in-None.ensures.value
    ∙ made-applied next.first next.changes.items (stored shelf) key)
    ∙ lent-of next.decls c.args.class.now None _ (c.in-None.ensures ∙ c.self.invariant.turned key) (c.self.invariant.exact key)
    ∙ ap (λ (d : List Decl). records_in d c.args.class.now) c.self.view_is
