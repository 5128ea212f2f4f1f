-- Which kept choices an edit takes away.
use Rattle.std.specs.Prelude.{ℕ, Bool, not, ◌&&◌, List}
use Rattle.std.specs.List.{list_all, list_any}
use Rattle.std.specs.Str.{bytes_eq}
use Rattle.cdi_model.specs.SameUse.{same_quals}
use Rattle.cdi_model.specs.declared.decl.Decl.{Decl}
use Rattle.cdi_model.specs.declared.quals.Qual.{Qual}
use Rattle.cdi_effective.specs.Qualifiers.{required}
use Rattle.cdi_observe.specs.Keys.{ChoiceKey}
use Rattle.cdi_observe.specs.Wanted.{is_wanted}
use Rattle.cdi_seen.specs.Touched.{declare_alike, is_touched, see_same_beans}
use Rattle.cdi_live.specs.declared.gone.Gone.{Gone}

-- the choice is among these
abbrev pub is_gone : List Gone → List ℕ → List Qual → Bool
is_gone list t us = list_any (λ g. bytes_eq t g.bean_type && same_quals us g.uses) list

-- each of the qualifiers that are asked for is declared alike before and after
abbrev pub are_alike : List Decl → List Decl → List Qual → Bool
are_alike ds es us = list_all (λ u. declare_alike ds es u.name) (required us)

-- a choice sees something else after edits
abbrev pub sees_other : List Decl → List Decl → List ℕ → List Qual → Bool
sees_other ds es t us = not (see_same_beans ds es t && are_alike ds es us)

-- a kept choice is kept after edits where a point asks for it still, and it sees the same
abbrev pub stays_known : List Decl → List Decl → List ℕ → List Qual → Bool
stays_known ds es t us = is_wanted es (ChoiceKey t us) && not (is_touched ds es (ChoiceKey t us))
