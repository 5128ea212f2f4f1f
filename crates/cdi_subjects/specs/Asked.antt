-- What may be asked for: types and qualifiers that are known.
use Rattle.std.specs.Prelude.{ℕ, Bool, not, ◌&&◌, List}
use Rattle.std.specs.List.{list_all}
use Rattle.cdi_model.specs.declared.decl.Decl.{Decl}
use Rattle.cdi_model.specs.declared.decl.UseKind.TheVariants as uses
use Rattle.cdi_model.specs.declared.quals.Qual.{Qual}
use Rattle.cdi_match.specs.Misuse.{is_misused}
use Rattle.cdi_subjects.specs.Subjects.{is_known_type, is_known_qualifier}

-- the qualifier is declared or built in, and the members that are written fit its declaration
abbrev pub is_known_use : List Decl → Qual → Bool
is_known_use ds u = is_known_qualifier ds u.name && not (is_misused ds uses.Qualifier u)

abbrev pub are_known : List Decl → List ℕ → List Qual → Bool
are_known ds t quals = is_known_type ds t && list_all (is_known_use ds) quals
