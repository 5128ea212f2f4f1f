-- By which bean a bean is replaced (CDI 4.0, Specialization).
use Rattle.std.specs.Prelude.{◌≡◌, ℕ, Bool, true, false, List, Option, is_some, option_map, All}
use Rattle.std.specs.List.{find}
use Rattle.cdi_model.specs.Decl.{name_of_decl}
use Rattle.cdi_model.specs.declared.decl.Decl.{Decl}
use Rattle.cdi_match.specs.Chain.{has}
use Rattle.cdi_effective.specs.Beans.{beans}
use Rattle.cdi_effective.specs.Specialized.{is_replaced, replaced_by}
use Rattle.cdi_effective.specs.declared.records.Effective.{Effective}
use Rattle.cdi_explain.specs.declared.verdict.Disabled.TheVariants as disabled
use Rattle.cdi_explain.specs.Verdicts.{why_disabled}

-- a declaration replaces the bean of the class: it is that of an offered bean, which has this one behind itself in its chain
abbrev pub replaces : List Decl → List ℕ → Decl → Bool
replaces ds class d = has (replaced_by ds d) class

-- the name of the first declaration that does
unfoldable pub replacer_of : List Decl → List ℕ → Option (List ℕ)
replacer_of ds class = option_map name_of_decl (find (replaces ds class) ds)

-- There is one exactly where the bean is replaced.
abbrev pub ReplacedHaveReplacers : Type 0
ReplacedHaveReplacers = (ds : List Decl) (class : List ℕ) → is_some (replacer_of ds class) ≡ is_replaced ds class

-- a bean has a replacer, if it is disabled and the reason is that another specializes it
abbrev pub HasReplacer : List Decl → Effective → Type 0
HasReplacer ds bean = bean.is_enabled ≡ false → why_disabled bean ≡ disabled.Specialized → is_some (replacer_of ds bean.id.class) ≡ true

-- So each bean of the declarations that is said to be disabled as another specializes it has a replacer.
abbrev pub SpecializedHaveReplacers : Type 0
SpecializedHaveReplacers = (ds : List Decl) → All (HasReplacer ds) (beans ds)
