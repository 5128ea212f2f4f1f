-- The bean that a bean specializes.
use Rattle.std.proofs.Common.{◌≡◌, ℕ, false, cond, List, Option, Some, None, option_map, slice_get, refl, sym, ap, ◌∙◌}
use Rattle.cdi_model.proofs.PositionLemmas.{name-found}
use Rattle.cdi_model.specs.{DeclList.find_decl, declared.decl.BeanDecl.BeanDecl, declared.decl.Decl.Decl}
use Rattle.cdi_model.specs.declared.decl.Decl.TheVariants as decls
use Rattle.cdi_model.specs.declared.decl.Kind.TheVariants as kinds
use Rattle.cdi_effective.specs.{Beans.managed, Disposers.as_bean, Disposers.find_bean, Records.records_declared, Records.records_in}
use Rattle.cdi_effective.specs.Specialized.{bean_named, extended, specialized}
use Rattle.cdi_effective.proofs.ChainLemmas.{specialized-found}
use Rattle.cdi_subjects.specs.Specializing.{specialized_bean}

-- what is found by a name has it
found-name : (n : List ℕ) (ds : List Decl) (s : BeanDecl) → find_bean n ds ≡ Some s → s.name ≡ n
found-name n ds s is = by (find_decl kinds.Bean n ds) refl is
  where
    by : (o : Option Decl) → find_decl kinds.Bean n ds ≡ o → as_bean o ≡ Some s → s.name ≡ n
    by None at is = cc
    by (Some (decls.Bean b)) at is =
        let same : b ≡ s = cc in
        sym (ap (λ c. c.name) same) ∙ name-found kinds.Bean n ds (decls.Bean b) at
    by (Some other) at is = cc

-- its managed bean is the first of the records of its class
pub first_specialized : (ds : List Decl) (b s : BeanDecl) → specialized ds b ≡ Some s
    → slice_get (records_in ds s.name) 0 ≡ specialized_bean ds b
unfolding records_in
first_specialized ds b s is =
    ap (λ o. slice_get (records_declared ds o) 0) (specialized-found ds b s is) ∙ sym (ap (option_map (managed ds)) is)

-- a bean that does not say so specializes none
pub none-specialized : (ds : List Decl) (b : BeanDecl) → b.specializes ≡ false → specialized ds b ≡ None
none-specialized ds b says = ap (λ t. cond t (bean_named ds (extended (find_decl kinds.Type b.name ds))) None) says
