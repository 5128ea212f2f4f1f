-- What the records of a bean declaration say of its parts.
use Rattle.std.proofs.Common.{arith, ◌≡◌, ℕ, Bool, true, not, List, [], ◌∷◌, ◌++◌, map, filter, length, nat_lt, Option, Some, None}
use Rattle.std.proofs.Common.{unwrap_or, refl, ap, ◌∙◌, flat_map}
use Rattle.std.specs.{List.AllByRecursion, Option.option_to_list, Str.bytes_eq}
use Rattle.std.proofs.lemmas.{Bool.or_left, Bool.or_right, Map.Views.any-filter_same}
use Rattle.base_lists.proofs.Filters.{filter-alike}
use Rattle.base_numbers.proofs.Texts.{one_text, same_text}
use Rattle.cdi_model.specs.declared.decl.{BeanDecl.BeanDecl, Decl.Decl, ProducerDecl.ProducerDecl}
use Rattle.cdi_model.specs.declared.decl.Decl.TheVariants as decls
use Rattle.cdi_match.specs.{Chain.has, Types.object, Types.types_of}
use Rattle.cdi_effective.specs.Beans.{is_kept, restricted, effective, entries, managed, product}
use Rattle.cdi_effective.specs.{Bindings.class_bindings, Disposers.disposes, declared.records.Effective.Effective}
use Rattle.cdi_faults.specs.declared.fault.Subject.TheVariants as parts
use Rattle.cdi_subjects.specs.Subjects.{binding_conflicts, conditional_dependents, disposers_at_fault, typed, wrongly_listed}
use Rattle.cdi_subjects.specs.Records.{conditional_by, conflicts_by, conflicts_in, lacked_by, not_had, not_had_by, typed_by, with_two}
use Rattle.cdi_subjects.specs.{Records.without_product, Specializing.lacked_types}

-- ---- what a record is told by

pub managed-producer : (ds : List Decl) (bean : BeanDecl) → (managed ds bean).id.producer ≡ None
unfolding effective
managed-producer ds bean = refl

pub product-producer : (ds : List Decl) (bean : BeanDecl) (p : ProducerDecl) → (product ds bean p).id.producer ≡ Some p.name
unfolding effective
product-producer ds bean p = refl

-- the records of a bean declaration are its managed bean and its products
pub records_of_bean : (ds : List Decl) (d : Decl) (bean : BeanDecl) (b : Effective) (bs : List Effective) → d ≡ decls.Bean bean
    → b ∷ bs ≡ entries ds d
    → (b ≡ managed ds bean) × (bs ≡ map (product ds bean) bean.producers)
records_of_bean ds d bean b bs is same = grind (arith, bean.producers)

-- ---- products by the names of their producer methods

pub named_products : (test : Effective → Bool) (ds : List Decl) (bean : BeanDecl) (ps : List ProducerDecl)
    → map parts.Producer (flat_map (λ b. option_to_list b.id.producer) (filter test (map (product ds bean) ps)))
    ≡ map (λ p. parts.Producer p.name) (filter (λ p. test (product ds bean p)) ps)
named_products test ds bean [] = refl
named_products test ds bean (p ∷ ps) = grind (arith, named_products test ds bean ps, p.name, product-producer)

-- what is at fault of the disposers of a declaration, whose products are those behind its first record
pub disposers_of_records : (ds : List Decl) (bean : BeanDecl) (b : Effective) (bs : List Effective) → b ∷ bs ≡ entries ds (decls.Bean bean)
    → without_product ds bs bean.disposers ++ with_two ds bs bean.disposers ≡ disposers_at_fault ds (decls.Bean bean)
disposers_of_records ds bean b bs same =
    let products = (records_of_bean ds (decls.Bean bean) bean b bs refl same).1 in
    ap (λ rs. without_product ds rs bean.disposers ++ with_two ds rs bean.disposers) products
    ∙ ap (λ ms. without_product ds (map (product ds bean) bean.producers) bean.disposers ++ ms)
    (named_products (λ r. nat_lt 1 (length (filter (disposes ds r) bean.disposers))) ds bean bean.producers)

-- ---- listed types

-- a restriction to some types leaves each of these
has-restricted : (listed types : List (List ℕ)) (s : List ℕ) → has listed s ≡ true → has (filter (is_kept listed) types) s ≡ has types s
has-restricted listed types s among = any-filter_same (λ n. bytes_eq n s) (is_kept listed) true kept types
  where
    kept : (n : List ℕ) → bytes_eq n s ≡ true → is_kept listed n ≡ true
    kept n same = or_right (bytes_eq n object) (has listed n) (ap (has listed) (one_text n s same) ∙ among)

listed_among : (types listed all : List (List ℕ)) → ((s : List ℕ) → has listed s ≡ true → has all s ≡ true)
    → AllByRecursion (λ s. not (has (filter (is_kept all) types) s) ≡ not (has types s)) listed
listed_among types [] all among = tt
listed_among types (s ∷ listed) all among = (
  ap not (has-restricted all types s (among s (or_left (bytes_eq s s) (has listed s) (same_text s s refl)))),
  listed_among types listed all (λ t h. among t (or_right (bytes_eq s t) (has listed t) h)),
)

listed_and_restricted : (o : Option (List (List ℕ))) (types : List (List ℕ))
    → filter (λ s. not (has (restricted o types) s)) (unwrap_or o []) ≡ filter (λ s. not (has types s)) (unwrap_or o [])
listed_and_restricted None types = refl
listed_and_restricted (Some listed) types = filter-alike (λ s. not (has (filter (is_kept listed) types) s)) (λ s. not (has types s)) listed
    (listed_among types listed listed (λ s h. h))

not_had_of_managed : (ds : List Decl) (bean : BeanDecl)
    → not_had (managed ds bean) bean.attributes ≡ map (λ s. parts.Typed None s) (wrongly_listed ds bean.name bean.attributes)
unfolding effective
not_had_of_managed ds bean = ap (map (parts.Typed None)) (listed_and_restricted bean.attributes.types (types_of ds bean.name))

not_had_of_product : (ds : List Decl) (bean : BeanDecl) (p : ProducerDecl)
    → not_had (product ds bean p) p.attributes ≡ map (λ s. parts.Typed (Some p.name) s) (wrongly_listed ds p.product_type p.attributes)
unfolding effective
not_had_of_product ds bean p = ap (map (parts.Typed (Some p.name))) (listed_and_restricted p.attributes.types (types_of ds p.product_type))

not_had_by_products : (ds : List Decl) (bean : BeanDecl) (ps : List ProducerDecl)
    → not_had_by (map (product ds bean) ps) ps
    ≡ flat_map (λ p. map (λ s. parts.Typed (Some p.name) s) (wrongly_listed ds p.product_type p.attributes)) ps
not_had_by_products ds bean [] = refl
not_had_by_products ds bean (p ∷ ps) =
    ap (λ ms. ms ++ not_had_by (map (product ds bean) ps) ps) (not_had_of_product ds bean p)
    ∙ ap (λ ms. map (λ s. parts.Typed (Some p.name) s) (wrongly_listed ds p.product_type p.attributes) ++ ms)
    (not_had_by_products ds bean ps)

-- the listed types that the records of a declaration do not have are those that are not among the unrestricted ones
pub typed_by_entries : (ds : List Decl) (d : Decl) → typed_by d (entries ds d) ≡ typed ds d
typed_by_entries ds (decls.Bean bean) =
    ap (λ ms. ms ++ not_had_by (map (product ds bean) bean.producers) bean.producers) (not_had_of_managed ds bean)
    ∙ ap (λ ms. map (λ s. parts.Typed None s) (wrongly_listed ds bean.name bean.attributes) ++ ms)
    (not_had_by_products ds bean bean.producers)
typed_by_entries ds other = refl

-- ---- bindings

managed-bindings : (ds : List Decl) (bean : BeanDecl) → (managed ds bean).bindings ≡ class_bindings ds bean
unfolding effective
managed-bindings ds bean = refl

pub conflicts_by_entries : (ds : List Decl) (d : Decl) → conflicts_by ds d (entries ds d) ≡ binding_conflicts ds d
conflicts_by_entries ds (decls.Bean bean) = ap (λ class. conflicts_in ds class bean) (managed-bindings ds bean)
conflicts_by_entries ds other = refl

pub conditional_by_entries : (ds : List Decl) (d : Decl) → conditional_by d (entries ds d) ≡ conditional_dependents ds d
conditional_by_entries ds (decls.Bean bean) = refl
conditional_by_entries ds other = refl

pub lacked_by_entries : (ds : List Decl) (d : Decl) → lacked_by ds d (entries ds d) ≡ lacked_types ds d
lacked_by_entries ds (decls.Bean bean) = refl
lacked_by_entries ds other = refl
