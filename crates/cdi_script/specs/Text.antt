-- The text that steps print.
use Rattle.std.specs.Prelude.{ℕ, Bool, true, false, List, [], ◌∷◌, ◌++◌, flat_map, Result, Ok, Err, if◌then◌else◌}
use Rattle.std.specs.declared.alloc.AllocError.{AllocError}
use Rattle.cdi_model.specs.Bytes.{feed}
use Rattle.cdi_legal.specs.declared.entry.Entry.{Entry}
use Rattle.cdi_staging.specs.declared.names.Names.{Names}
use Rattle.cdi_trace.specs.TraceText.{text_of_entries}
use Rattle.cdi_container.specs.AnswerText.{words_of_answer}
use Rattle.cdi_container.specs.declared.answer.Answer.{Answer}
use Rattle.cdi_container.specs.declared.answer.Answer.TheVariants.{Refused}
use Rattle.cdi_container.specs.History.{Step, History}

-- want of memory ends a script and prints nothing
abbrev pub text_of_answer : Result Answer AllocError → List ℕ
text_of_answer (Ok answer) = words_of_answer answer ++ feed ∷ []
text_of_answer (Err error) = []

-- the entries of a trace, told by these names, unless they are left out
abbrev pub text_of_trace : Bool → Names → List Entry → List ℕ
text_of_trace quiet names trace = if quiet then [] else text_of_entries names trace

-- a command's trace, and then its answer
abbrev pub text_of_step : Bool → Step → List ℕ
text_of_step quiet step = text_of_trace quiet step.names step.trace ++ text_of_answer step.answer

abbrev pub text_of : Bool → History → List ℕ
text_of quiet history = flat_map (text_of_step quiet) history

abbrev pub is_refused : Result Answer AllocError → Bool
is_refused (Ok (Refused refusal edit)) = true
is_refused answer = false

abbrev pub is_out_of_memory : Result Answer AllocError → Bool
is_out_of_memory (Ok answer) = false
is_out_of_memory (Err error) = true
