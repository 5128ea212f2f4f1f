-- Records that are lent.
use Rattle.std.specs.Prelude.{◌≡◌, ℕ, List, ◌++◌, flat_map, slice_get, Some}
use Rattle.cdi_model.specs.Decl.{kind_of, name_of_decl}
use Rattle.cdi_model.specs.DeclList.{find_decl}
use Rattle.cdi_model.specs.declared.decl.Decl.{Decl}
use Rattle.cdi_effective.specs.Beans.{entries}
use Rattle.cdi_effective.specs.declared.records.Effective.{Effective}
use Rattle.cdi_container.specs.declared.beans.LeftBeans.{LeftBeans}

-- those of a declaration that are left, and those of the declarations after it
abbrev pub beans_left : LeftBeans → List Effective
beans_left b = b.own.now ++ flat_map (entries b.live.now.decls) b.rest

-- each of some declarations is found among all by its kind and name
abbrev pub AreDeclared : List Decl → List Decl → Type 0
AreDeclared ds some = (k : ℕ) (d : Decl) → slice_get some k ≡ Some d → find_decl (kind_of d) (name_of_decl d) ds ≡ Some d
