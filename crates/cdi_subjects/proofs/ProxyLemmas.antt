-- The record of a bean has the bindings of its class.
use Rattle.std.proofs.Common.{arith, ◌≡◌, ℕ, Bool, true, false, cond, List, [], ◌∷◌, map, Some, is_some, sym, ap, ◌∙◌}
use Rattle.std.specs.List.{find}
use Rattle.std.proofs.lemmas.{Bool.false≢true, Option.none-some, Option.same_Some}
use Rattle.cdi_model.specs.{DeclList.find_decl, declared.decl.BeanDecl.BeanDecl, declared.decl.Decl.Decl}
use Rattle.cdi_model.specs.declared.decl.ProducerDecl.{ProducerDecl}
use Rattle.cdi_model.proofs.PositionLemmas.{name-found}
use Rattle.cdi_model.specs.declared.decl.Decl.TheVariants as decls
use Rattle.cdi_model.specs.declared.decl.Kind.TheVariants as kinds
use Rattle.cdi_effective.specs.{Beans.effective, Beans.managed, Beans.product, Beans.records, declared.records.Effective.Effective}
use Rattle.cdi_effective.specs.{Bindings.class_bindings, Disposers.as_bean, Records.records_declared, Records.records_in}

-- a bean that is found by a name has it, and is found by its own
pub found-own : (ds : List Decl) (name : List ℕ) (bean : BeanDecl) → find_decl kinds.Bean name ds ≡ Some (decls.Bean bean)
    → find_decl kinds.Bean bean.name ds ≡ Some (decls.Bean bean)
found-own ds name bean found =
    let own : bean.name ≡ name = name-found kinds.Bean name ds (decls.Bean bean) found in
    ap (λ n. find_decl kinds.Bean n ds) own ∙ found

-- and its records are these
pub records-of : (ds : List Decl) (name : List ℕ) (bean : BeanDecl) → find_decl kinds.Bean name ds ≡ Some (decls.Bean bean)
    → records_in ds name ≡ records ds bean
unfolding records_in
records-of ds name bean found = ap (λ o. records_declared ds (as_bean o)) found

module _ (ds : List Decl) (bean : BeanDecl) where
  product-first : (p : ProducerDecl) (b : Effective) → product ds bean p ≡ b → is_some b.id.producer ≡ true
  unfolding effective
  product-first p b same = ap (λ (x : Effective). is_some x.id.producer) (sym same)

  of-product : (test : Effective → Bool) (producers : List ProducerDecl) (b : Effective)
      → find test (map (product ds bean) producers) ≡ Some b → is_some b.id.producer ≡ true
  of-product test [] b found = absurd (none-some b found)
  of-product test (p ∷ ps) b found = grind (arith, of-product test ps b, b.id.producer, product-first, same_Some)

  managed-first : (b : Effective) → managed ds bean ≡ b → b.bindings ≡ class_bindings ds bean
  unfolding effective
  managed-first b same = ap (λ (x : Effective). x.bindings) (sym same)

  pub own-bindings : (test : Effective → Bool) (b : Effective) → find test (records ds bean) ≡ Some b → is_some b.id.producer ≡ false
      → b.bindings ≡ class_bindings ds bean
  own-bindings test b found managed-one = by (test (managed ds bean)) found
    where
      by : (is : Bool) → cond is (Some (managed ds bean)) (find test (map (product ds bean) bean.producers)) ≡ Some b
          → b.bindings ≡ class_bindings ds bean
      by true here = managed-first b (same_Some (managed ds bean) b here)
      by false more = absurd (false≢true (sym managed-one ∙ of-product test bean.producers b more))
