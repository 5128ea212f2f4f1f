-- Answers that are lent or made, and what may be asked for without an evaluation.
use Rattle.std.specs.Prelude.{◌≡◌, Bool, true, not, ◌||◌, List}
use Rattle.std.specs.List.{list_all}
use Rattle.cdi_model.specs.declared.decl.Decl.{Decl}
use Rattle.cdi_observe.specs.Keys.{Key}
use Rattle.cdi_observe.specs.Kept.{Kept}
use Rattle.cdi_observe.specs.Wanted.{wanted}
use Rattle.cdi_observe.specs.declared.lent.Lent.{Lent}
use Rattle.cdi_observe.specs.declared.lent.Lent.TheVariants as lents

-- the answer itself
abbrev pub lent_value : {T : Type 0} → Lent T → T
lent_value (lents.Kept answer) = answer.now
lent_value (lents.Made answer) = answer

-- the answer to the key is kept, or the view keeps none
abbrev pub is_answerable : Kept → Key → Bool
is_answerable kept key = not kept.keeps || kept.knows key

-- so are those to some keys
abbrev pub are_answerable : Kept → List Key → Bool
are_answerable kept keys = list_all (is_answerable kept) keys

-- so are those to all that the declarations ask for
abbrev pub IsEvaluated : List Decl → Kept → Type 0
IsEvaluated ds kept = are_answerable kept (wanted ds) ≡ true
