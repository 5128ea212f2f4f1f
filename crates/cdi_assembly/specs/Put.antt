-- Which declarations some files leave, and which files are refused.
use Rattle.std.specs.Prelude.{◌≡◌, Bool, true, false, ℕ, ◌+◌, List, [], ◌∷◌, ◌++◌, flat_map, fold, Result, Ok, Err}
use Rattle.cdi_model.specs.declared.decl.Decl.{Decl}
use Rattle.cdi_model.specs.declared.refusal.Refusal.{Refusal}
use Rattle.cdi_container.specs.Editing.{answer_of_put, put_of}
use Rattle.cdi_lines.specs.declared.command.Command.{Command}
use Rattle.cdi_lines.specs.declared.command.Command.TheVariants.{Edit as EditCommand}
use Rattle.cdi_lines.specs.declared.edit.Edit.TheVariants as edits
use Rattle.cdi_script.specs.Commands.{commands}
use Rattle.cdi_script.specs.Left.{left_by_all, left_by_change}
use Rattle.cdi_container.specs.declared.answer.PutDone.{PutDone}
use Rattle.cdi_assembly.specs.declared.problem.Problem.{Problem}
use Rattle.cdi_assembly.specs.declared.problem.Problem.TheVariants as problems
use Rattle.cdi_sources.specs.declared.source.Form.{Form}
use Rattle.cdi_sources.specs.declared.source.Form.TheVariants as forms
use Rattle.cdi_sources.specs.declared.source.Source.{Source}
use Rattle.cdi_text.specs.Reading.{decl_of}

-- a text that is refused leaves all as it is
abbrev pub put_text : List Decl → List ℕ → List Decl
put_text ds text = left_by_change ds (put_of (decl_of text))

-- what a put of the text answers on some declarations
abbrev pub answer_to_text : List Decl → List ℕ → Result PutDone Refusal
answer_to_text ds text = answer_of_put ds (decl_of text)

abbrev pub is_declaration_form : Form → Bool
is_declaration_form forms.Declaration = true
is_declaration_form forms.Script = false

-- the file is one declaration
abbrev pub is_declaration : Source → Bool
is_declaration source = is_declaration_form source.form

-- the commands of a file
abbrev pub commands_of_form : Form → List ℕ → List Command
commands_of_form forms.Declaration text = EditCommand (edits.Put text) ∷ []
commands_of_form forms.Script text = commands text

abbrev pub commands_of_source : Source → List Command
commands_of_source source = commands_of_form source.form source.text.items

-- the declarations that its edits and batches leave
abbrev pub left_by_source : List Decl → Source → List Decl
left_by_source ds source = left_by_all ds (commands_of_source source)

-- those of some files, in order
abbrev pub left_by_sources : List Decl → List Source → List Decl
left_by_sources ds sources = fold left_by_source ds sources

-- ---- what is refused

-- the position of a file, and why it is refused
abbrev pub Refused : Type 0
Refused = ℕ × Refusal

-- where a file is refused that is answered so
abbrev pub refused_as : ℕ → Result PutDone Refusal → List Refused
refused_as position (Ok put) = []
refused_as position (Err refusal) = (position, refusal) ∷ []

-- those of some files that are put in order, of which the first has this position
abbrev pub refused_from : ℕ → List Decl → List Source → List Refused
refused_from position ds [] = []
refused_from position ds (source ∷ rest) = refused_as position (answer_to_text ds source.text.items)
    ++ refused_from (position + 1) (left_by_source ds source) rest

-- what a problem tells of a refusal
abbrev pub told_in : Problem → List Refused
told_in (problems.Refused refused) = (refused.source, refused.refusal) ∷ []
told_in (problems.Repeated repeated) = []

abbrev pub told : List Problem → List Refused
told list = flat_map told_in list
