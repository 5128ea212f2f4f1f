-- A use with its members filled.
use Rattle.std.specs.Prelude.{ℕ, List, Option}
use Rattle.cdi_model.specs.declared.decl.Decl.{Decl}
use Rattle.cdi_model.specs.declared.decl.MemberDecl.{MemberDecl}
use Rattle.cdi_model.specs.declared.decl.UseKind.{UseKind}
use Rattle.cdi_model.specs.declared.quals.Qual.{Qual}
use Rattle.cdi_match.specs.Covering.{given_name}
use Rattle.cdi_match.specs.Filling.{Values, declared_of, fill}

pub record FilledUse : Type 0 where
  pub name : List ℕ
  -- the name in a use of `Named`
  pub given : Option (List ℕ)
  pub values : Values

-- by the members that are declared
abbrev pub filled_by : List MemberDecl → Qual → FilledUse
filled_by declared u = record { name = u.name; given = given_name u.arguments; values = fill declared u }

abbrev pub filled : List Decl → UseKind → Qual → FilledUse
filled ds kind u = filled_by (declared_of ds kind u.name) u
