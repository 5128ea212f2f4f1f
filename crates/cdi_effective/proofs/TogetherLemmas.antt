-- The records of a declaration in the bean list.
use Rattle.cdi_effective.proofs.Common.{◌≡◌, ◌+◌, ℕ, Bool, true, false, cond, List, [], ◌∷◌, drop, refl, ap, ◌∙◌, bytes_eq, Decl, arith}
use Rattle.cdi_effective.proofs.Common.{BeanDecl, find_bean, ◌++◌, map, flat_map, entries, records, Effective, bytes_eq-turned}
use Rattle.cdi_effective.proofs.Common.{ProducerDecl, effective, product, managed, beans}
use Rattle.std.specs.List.{position_or_len, take_while}
use Rattle.std.proofs.lemmas.List.Sums.{take_while-cons}
use Rattle.cdi_model.specs.declared.decl.Decl.TheVariants as decls
use Rattle.cdi_effective.specs.Records.{records_declared, records_in, is_of_class, is_product, with_products, RecordsStandTogether}

-- from the first bean of a class on
from_class : List ℕ → List Effective → List Effective
from_class class beans = drop (position_or_len (is_of_class class) beans) beans

at-bean : (class : List ℕ) (bean : Effective) (more : List Effective) (b : Bool) → is_of_class class bean ≡ b
    → from_class class (bean ∷ more) ≡ cond b (bean ∷ more) (from_class class more)
unfolding from_class
at-bean class bean more b e = grind (arith, drop)

product-passes : (ds : List Decl) (bean : BeanDecl) (p : ProducerDecl) → is_product (product ds bean p) ≡ true
unfolding effective
product-passes ds bean p = refl

-- the products stand up to the next managed bean
take-products : (ds : List Decl) (bean : BeanDecl) (ps : List ProducerDecl) (rest : List Effective) → take_while is_product rest ≡ []
    → take_while is_product (map (product ds bean) ps ++ rest) ≡ map (product ds bean) ps
take-products ds bean [] rest none = none
take-products ds bean (p ∷ ps) rest none =
    take_while-cons is_product (product ds bean p) (map (product ds bean) ps ++ rest)
    ∙ ap (λ b. cond b (product ds bean p ∷ take_while is_product (map (product ds bean) ps ++ rest)) []) (product-passes ds bean p)
    ∙ ap (λ more. product ds bean p ∷ more) (take-products ds bean ps rest none)

none-first : (ds es : List Decl) → take_while is_product (flat_map (entries ds) es) ≡ []
unfolding effective
none-first ds [] = refl
none-first ds (decls.Bean bean ∷ es) = refl
none-first ds (other ∷ es) = none-first ds es

product-class : (ds : List Decl) (class : List ℕ) (bean : BeanDecl) (p : ProducerDecl)
    → is_of_class class (product ds bean p) ≡ bytes_eq bean.name class
unfolding effective
product-class ds class bean p = refl

managed-class : (ds : List Decl) (class : List ℕ) (bean : BeanDecl) → is_of_class class (managed ds bean) ≡ bytes_eq bean.name class
unfolding effective
managed-class ds class bean = refl

skip-products : (ds : List Decl) (class : List ℕ) (bean : BeanDecl) (ps : List ProducerDecl) (rest : List Effective)
    → bytes_eq bean.name class ≡ false → from_class class (map (product ds bean) ps ++ rest) ≡ from_class class rest
skip-products ds class bean [] rest other = refl
skip-products ds class bean (p ∷ ps) rest other =
    at-bean class (product ds bean p) (map (product ds bean) ps ++ rest) false (product-class ds class bean p ∙ other)
    ∙ skip-products ds class bean ps rest other

at-records : (ds : List Decl) (class : List ℕ) (bean : BeanDecl) (rest : List Effective) (b : Bool) → bytes_eq bean.name class ≡ b
    → from_class class (records ds bean ++ rest) ≡ cond b (records ds bean ++ rest) (from_class class rest)
at-records ds class bean rest true e =
    at-bean class (managed ds bean) (map (product ds bean) bean.producers ++ rest) true (managed-class ds class bean ∙ e)
at-records ds class bean rest false e =
    at-bean class (managed ds bean) (map (product ds bean) bean.producers ++ rest) false (managed-class ds class bean ∙ e)
    ∙ skip-products ds class bean bean.producers rest e

first-records : (ds : List Decl) (bean : BeanDecl) (es : List Decl)
    → with_products (records ds bean ++ flat_map (entries ds) es) ≡ records ds bean
first-records ds bean es = ap (λ products. managed ds bean ∷ products)
    (take-products ds bean bean.producers (flat_map (entries ds) es) (none-first ds es))

-- the records of a class among those of some declarations
among : (ds : List Decl) (class : List ℕ) (es : List Decl)
    → with_products (from_class class (flat_map (entries ds) es)) ≡ records_declared ds (find_bean class es)
unfolding from_class
among ds class [] = refl
among ds class (decls.Bean bean ∷ es) = by (bytes_eq bean.name class) refl (among ds class es)
  where
    by : (b : Bool) → bytes_eq bean.name class ≡ b
        → with_products (from_class class (flat_map (entries ds) es)) ≡ records_declared ds (find_bean class es)
        → with_products (from_class class (records ds bean ++ flat_map (entries ds) es))
        ≡ records_declared ds (find_bean class (decls.Bean bean ∷ es))
    by true e more = rw (bytes_eq-turned class bean.name ∙ e)
        (ap with_products (at-records ds class bean (flat_map (entries ds) es) true e) ∙ first-records ds bean es)
    by false e more = rw (bytes_eq-turned class bean.name ∙ e)
        (ap with_products (at-records ds class bean (flat_map (entries ds) es) false e) ∙ more)
among ds class (other ∷ es) = among ds class es

pub records_stand_together : RecordsStandTogether
unfolding beans records_in from_class
records_stand_together ds class = among ds class ds
