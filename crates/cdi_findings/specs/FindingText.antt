-- The lines that say what was found.
use Rattle.std.specs.Prelude.{ℕ, List, [], ◌∷◌, ◌++◌, ◌==◌, codes, decimal, flat_map, Option, Some, None, option_map, string_bytes, if◌then◌else◌}
use Rattle.cdi_model.specs.Bytes.{feed, space}
use Rattle.cdi_model.specs.declared.refusal.Refusal.{Refusal}
use Rattle.cdi_model.specs.RefusalText.{code_of_refusal, word_of_refusal}
use Rattle.cdi_findings.specs.declared.finding.Finding.{Finding}
use Rattle.cdi_findings.specs.declared.finding.Reasons.{Reasons}
use Rattle.cdi_findings.specs.declared.finding.Considered.{Considered}

-- what is refused: the code and the word, and the way to it, if there is one
abbrev pub text_of_refusal : Refusal → List ℕ → List ℕ
text_of_refusal refusal [] = code_of_refusal refusal ++ space ∷ word_of_refusal refusal
text_of_refusal refusal way = code_of_refusal refusal ++ space ∷ word_of_refusal refusal ++ space ∷ way

-- where it was found, as far as that is known
abbrev pub text_of_place : Option (List ℕ) → Option ℕ → List ℕ
text_of_place None line = []
text_of_place (Some file) None = file ++ codes ": "
text_of_place (Some file) (Some line) = file ++ codes ":" ++ decimal line ++ codes ": "

-- the file of a bean in brackets, if it is known
abbrev pub text_of_file : Option (List ℕ) → List ℕ
text_of_file None = []
text_of_file (Some file) = codes " (" ++ file ++ codes ")"

-- a bean that was considered, with its file and its verdict, on a line
abbrev pub text_of_bean : Considered → List ℕ
text_of_bean c = codes "  " ++ string_bytes c.bean ++ text_of_file (option_map (λ s. s.now) c.file)
    ++ codes " " ++ string_bytes c.text ++ feed ∷ []

abbrev pub text_of_beans : List Considered → List ℕ
text_of_beans beans = flat_map text_of_bean beans

-- what is wanted, if something is
abbrev pub text_of_wanted : Option (List ℕ) → List ℕ
text_of_wanted None = []
text_of_wanted (Some wanted) = codes "  wanted: " ++ wanted ++ feed ∷ []

-- the noun after a number of beans
abbrev pub noun_of : ℕ → List ℕ
noun_of count = if count == 1 then codes "bean" else codes "beans"

-- how many other beans there are, if there are some
abbrev pub text_of_others : ℕ → List ℕ
text_of_others count = if count == 0 then [] else codes "  " ++ decimal count ++ codes " other " ++ noun_of count ++ feed ∷ []

abbrev pub text_of_reasons : Reasons → List ℕ
text_of_reasons r = text_of_wanted (option_map string_bytes r.wanted) ++ text_of_beans r.beans.items ++ text_of_others r.others
    ++ codes "  help: " ++ string_bytes r.help ++ feed ∷ []

abbrev pub text_of_some : Option Reasons → List ℕ
text_of_some None = []
text_of_some (Some reasons) = text_of_reasons reasons

-- where it was found and what it is, on one line, and then the reasons
abbrev pub text_of_finding : Finding → List ℕ
text_of_finding f = text_of_place (option_map (λ s. s.now) f.file) f.line ++ string_bytes f.text ++ feed ∷ text_of_some f.reasons
