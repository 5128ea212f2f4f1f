-- The records of one bean declaration, by the declarations and in a bean list.
use Rattle.std.specs.Prelude.{◌≡◌, ℕ, Bool, List, [], ◌∷◌, drop, Option, Some, None, is_some, take_while}
use Rattle.std.specs.List.{position_or_len}
use Rattle.std.specs.Str.{bytes_eq}
use Rattle.cdi_model.specs.declared.decl.BeanDecl.{BeanDecl}
use Rattle.cdi_model.specs.declared.decl.Decl.{Decl}
use Rattle.cdi_effective.specs.declared.records.Effective.{Effective}
use Rattle.cdi_effective.specs.Beans.{beans, records}
use Rattle.cdi_effective.specs.Disposers.{find_bean}

-- the records of a bean declaration, none where there is none
abbrev pub records_declared : List Decl → Option BeanDecl → List Effective
records_declared ds None = []
records_declared ds (Some bean) = records ds bean

-- the records of the bean declaration of a class: its managed bean, and its products in order; none where no such bean is declared
unfoldable pub records_in : List Decl → List ℕ → List Effective
records_in ds class = records_declared ds (find_bean class ds)

-- ---- the same in a bean list

abbrev pub is_of_class : List ℕ → Effective → Bool
is_of_class class bean = bytes_eq bean.id.class class

abbrev pub is_product : Effective → Bool
is_product bean = is_some bean.id.producer

-- the first of some beans, with the products that stand behind it
abbrev pub with_products : List Effective → List Effective
with_products [] = []
with_products (bean ∷ beans) = bean ∷ take_while is_product beans

-- the first bean of a class, with the products that stand behind it
abbrev pub records_among : List Effective → List ℕ → List Effective
records_among beans class = with_products (drop (position_or_len (is_of_class class) beans) beans)

-- In a bean list the records of a declaration stand together: the products behind their managed bean.
abbrev pub RecordsStandTogether : Type 0
RecordsStandTogether = (ds : List Decl) (class : List ℕ) → records_among (beans ds) class ≡ records_in ds class
