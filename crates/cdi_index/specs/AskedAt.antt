-- Who asks for a bean of a type, or for the observer methods of an event of it, by slots.
use Rattle.std.specs.Prelude.{Bool, false, List, Option}
use Rattle.std.specs.Option.{option_map_or}
use Rattle.cdi_model.specs.DeclList.{find_decl}
use Rattle.cdi_model.specs.declared.decl.Decl.{Decl}
use Rattle.cdi_postings.specs.declared.word.Reason.{Reason}
use Rattle.cdi_postings.specs.declared.word.Reason.TheVariants as reasons
use Rattle.cdi_index.specs.Asked.{asks_for}
use Rattle.cdi_index.specs.declared.asked.Asked.{Asked}
use Rattle.cdi_index.specs.declared.asked.Question.{Question}
use Rattle.cdi_index.specs.declared.asked.Question.TheVariants as questions
use Rattle.cdi_index.specs.declared.shelf.Kept.{Kept}

-- what is kept is of a declaration that asks for it
abbrev pub is_asker : List Decl → Asked → Option Kept → Bool
is_asker ds asked kept = option_map_or (λ e. option_map_or (asks_for asked.question asked.name.now asked.uses.now)
    (find_decl e.key.kind e.key.name ds) false) kept false

-- for this reason those are listed that ask for it
abbrev pub reason_of : Question → Reason
reason_of questions.Choice = reasons.Asks
reason_of questions.Event = reasons.Fires
