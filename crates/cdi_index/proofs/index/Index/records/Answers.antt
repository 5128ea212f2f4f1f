use Rattle.cdi_index.proofs.Common.{Some, None, refl, ap, ◌∙◌, key_at, made_of, stored, made_in, records_in, lent, State}
use Rattle.cdi_model.specs.declared.decl.Kind.TheVariants as kinds
use Rattle.cdi_index.proofs.ReplacedLemmas.{lent-of}
use Rattle.cdi_index.proofs.index.Index.records.Goals as goal

pub returns-in-Some : goal.returns-in-Some
returns-in-Some c =
    let ds = c.self.inside.decls in
    let key = key_at kinds.Bean c.args.class.now in
    c.as_slice.ensures
    ∙ lent-of ds c.args.class.now (Some c.in-Some.records.now) (made_of ds key)
    (c.in-Some.ensures.value ∙ c.self.invariant.replaced key) refl
    ∙ ap (λ (s : State). records_in s.decls c.args.class.now) c.self.view_is

pub returns-in-None : goal.returns-in-None
returns-in-None c =
    let ds = c.self.inside.decls in
    let key = key_at kinds.Bean c.args.class.now in
    c.own_records.ensures ∙ ap (lent None) c.find.ensures
    ∙ lent-of ds c.args.class.now None (made_in (stored c.self.inside.shelf key)) (c.in-None.ensures.value ∙ c.self.invariant.replaced key)
    (c.self.invariant.exact key)
    ∙ ap (λ (s : State). records_in s.decls c.args.class.now) c.self.view_is
