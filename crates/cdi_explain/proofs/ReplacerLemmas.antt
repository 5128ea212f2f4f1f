-- Which beans have a replacer.
use Rattle.std.proofs.Common.{arith, ◌≡◌, ℤ, Bool, true, false, not, ◌&&◌, ◌||◌, is_none, is_some, List, [], ◌∷◌, ◌++◌, map, Option, Some}
use Rattle.std.proofs.Common.{None, option_map, if◌then◌else◌, refl, sym, ◌∙◌}
use Rattle.std.specs.List.{find, flat_map, list_any, AllByRecursion}
use Rattle.std.proofs.lemmas.{Bool.false≢true, List.Elements.All-from_recursion}
use Rattle.cdi_model.specs.{Decl.name_of_decl, declared.decl.BeanDecl.BeanDecl, declared.decl.Decl.Decl}
use Rattle.cdi_model.specs.declared.decl.ProducerDecl.{ProducerDecl}
use Rattle.cdi_model.specs.declared.decl.Decl.TheVariants as decls
use Rattle.cdi_effective.specs.Beans.{beans, effective, entries, managed, product}
use Rattle.cdi_effective.specs.{Specialized.is_replaced, declared.records.Effective.Effective}
use Rattle.cdi_explain.specs.Replacers.{HasReplacer, ReplacedHaveReplacers, SpecializedHaveReplacers, replacer_of, replaces}
use Rattle.cdi_explain.specs.declared.verdict.Disabled.TheVariants as disabled

find_any : {X Y : Type 0} (f : X → Y) (p : X → Bool) (xs : List X) → is_some (option_map f (find p xs)) ≡ list_any p xs
find_any f p [] = refl
find_any f p (x ∷ xs) = grind (arith, find_any f p xs)

pub replaced_have_replacers : ReplacedHaveReplacers
unfolding replacer_of is_replaced
replaced_have_replacers ds class = find_any name_of_decl (replaces ds class) ds

-- ---- the beans of the declarations

-- a disabled managed bean is replaced, unless it is an alternative without a priority
replaced : (r is_alternative : Bool) (priority : Option ℤ) → (not r && (not is_alternative || is_some priority)) ≡ false
    → (if is_alternative && is_none priority then disabled.NoPriority else disabled.Specialized) ≡ disabled.Specialized → r ≡ true
replaced true is_alternative priority off why = refl
replaced false false priority off why = absurd (false≢true (sym off))
replaced false true (Some p) off why = absurd (false≢true (sym off))
replaced false true None off why = let clash : disabled.NoPriority ≡ disabled.Specialized = why in cc

managed_has : (ds : List Decl) (bean : BeanDecl) → HasReplacer ds (managed ds bean)
unfolding effective
managed_has ds bean off why =
    replaced_have_replacers ds bean.name ∙ replaced (is_replaced ds bean.name) (managed ds bean).is_alternative bean.priority off why

product_is : (b : Bool) → (if b then disabled.NoPriority else disabled.Declaring) ≡ disabled.Specialized → ⊥
product_is b why = grind arith

product_has : (ds : List Decl) (bean : BeanDecl) (p : ProducerDecl) → HasReplacer ds (product ds bean p)
unfolding effective
product_has ds bean p off why = absurd (product_is ((product ds bean p).is_alternative && is_none bean.priority) why)

products_have : (ds : List Decl) (bean : BeanDecl) (ps : List ProducerDecl) (rest : List Effective) → AllByRecursion (HasReplacer ds) rest
    → AllByRecursion (HasReplacer ds) (map (product ds bean) ps ++ rest)
products_have ds bean [] rest all = all
products_have ds bean (p ∷ ps) rest all = (product_has ds bean p, products_have ds bean ps rest all)

all_have : (ds es : List Decl) → AllByRecursion (HasReplacer ds) (flat_map (entries ds) es)
all_have ds [] = tt
all_have ds (decls.Bean bean ∷ es) = (managed_has ds bean, products_have ds bean bean.producers (flat_map (entries ds) es) (all_have ds es))
all_have ds (other ∷ es) = all_have ds es

pub specialized_have_replacers : SpecializedHaveReplacers
unfolding beans
specialized_have_replacers ds = All-from_recursion (HasReplacer ds) (flat_map (entries ds) ds) (all_have ds ds)
