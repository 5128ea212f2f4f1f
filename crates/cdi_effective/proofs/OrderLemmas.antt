-- The types of each bean of the bean list stand in order.
use Rattle.cdi_effective.proofs.Common.{ℕ, List, [], ◌∷◌, Decl, Qual, Option, Some, None, AllByRecursion, BeanDecl, ◌++◌, map, flat_map}
use Rattle.cdi_effective.proofs.Common.{Attributes, types_of, entries, Effective, is_replaced, byte_order, not, IsStrictlySortedBy}
use Rattle.cdi_effective.proofs.Common.{All-from_recursion, ProducerDecl, class_bindings, is_kept, effective, managed_origin, product}
use Rattle.cdi_effective.proofs.Common.{beans, Origin, arith}
use Rattle.std.proofs.lemmas.List.Kept.{IsStrictlySortedBy-filter}
use Rattle.cdi_model.specs.declared.decl.Decl.TheVariants as decls
use Rattle.cdi_match.proofs.TypeLemmas.{types_of-rises}
use Rattle.cdi_effective.specs.Beans.{restricted, TypesStandInOrder}

abbrev IsInOrder : Effective → Type 0
IsInOrder bean = IsStrictlySortedBy byte_order bean.types

restricted-rises : (listed : Option (List (List ℕ))) (types : List (List ℕ)) → IsStrictlySortedBy byte_order types
    → IsStrictlySortedBy byte_order (restricted listed types)
restricted-rises None types rise = rise
restricted-rises (Some listed) types rise = IsStrictlySortedBy-filter byte_order (is_kept listed) types rise

one-in-order : (ds : List Decl) (origin : Origin) (attributes : Attributes) (bindings : List Qual)
    → IsInOrder (effective ds origin attributes bindings)
unfolding effective
one-in-order ds origin attributes bindings = restricted-rises attributes.types (types_of ds origin.bean_type)
    (types_of-rises ds origin.bean_type)

products-in-order : (ds : List Decl) (bean : BeanDecl) (ps : List ProducerDecl) (rest : List Effective) → AllByRecursion IsInOrder rest
    → AllByRecursion IsInOrder (map (product ds bean) ps ++ rest)
products-in-order ds bean [] rest all = all
products-in-order ds bean (p ∷ ps) rest all = grind (arith, products-in-order ds bean ps rest all, p.attributes, one-in-order)

all-in-order : (ds es : List Decl) → AllByRecursion IsInOrder (flat_map (entries ds) es)
all-in-order ds [] = tt
all-in-order ds (decls.Bean bean ∷ es) = (
  one-in-order ds (managed_origin ds bean (not (is_replaced ds bean.name))) bean.attributes (class_bindings ds bean),
  products-in-order ds bean bean.producers (flat_map (entries ds) es) (all-in-order ds es),
)
all-in-order ds (other ∷ es) = all-in-order ds es

pub types_stand_in_order : TypesStandInOrder
unfolding beans
types_stand_in_order ds = All-from_recursion IsInOrder (flat_map (entries ds) ds) (all-in-order ds ds)
