-- Which kept choices stay after edits.
use Rattle.std.specs.Prelude.{◌≡◌, ℕ, true, not, List}
use Rattle.cdi_model.specs.declared.decl.Decl.{Decl}
use Rattle.cdi_model.specs.declared.quals.Qual.{Qual}
use Rattle.cdi_memo.specs.Answers.{Answers}
use Rattle.cdi_observe.specs.Keys.{ChoiceKey}
use Rattle.cdi_observe.specs.Wanted.{is_wanted}
use Rattle.cdi_resolve.specs.declared.choice.Choice.{Choice}
use Rattle.cdi_live.specs.Dropped.{is_kept}
use Rattle.cdi_live.specs.Gone.{is_gone, stays_known}
use Rattle.cdi_live.specs.declared.gone.Gone.{Gone}

-- A point asks for each kept choice.
abbrev pub AreWanted : List Decl → Answers (List Qual) Choice → Type 0
AreWanted ds m = (t : List ℕ) (us : List Qual) → is_kept m t us ≡ true → is_wanted ds (ChoiceKey t us) ≡ true

-- Of the kept choices exactly those that do not stay known are gone.
abbrev pub AreGone : List Decl → List Decl → Answers (List Qual) Choice → List Gone → Type 0
AreGone ds es m list = (t : List ℕ) (us : List Qual) → is_kept m t us ≡ true → is_gone list t us ≡ not (stays_known ds es t us)
