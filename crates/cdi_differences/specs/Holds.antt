-- When a table holds some lines.
use Rattle.std.specs.Prelude.{◌≡◌, ℕ, List, [], ◌∷◌, Option, Some, None, if◌then◌else◌, bytes_eq, String, string_bytes}
use Rattle.std.specs.Option.{option_or}
use Rattle.indexmap.specs.IndexMap.{IndexMap}
use Rattle.cdi_differences.specs.Differences.{text_at}
use Rattle.cdi_differences.specs.Wiring.{Shown}
use Rattle.cdi_differences.specs.declared.line.Line.{Line}

abbrev pub shown_line : Line → Shown
shown_line line = (string_bytes line.key, string_bytes line.text)

-- the text that a line has for a key, if it is the line's own
abbrev pub text_of_line : Shown → List ℕ → Option (List ℕ)
text_of_line line key = if bytes_eq line.0 key then Some line.1 else None

-- the text of a key is that of its last line
abbrev pub text_in : List Shown → List ℕ → Option (List ℕ)
text_in [] key = None
text_in (line ∷ lines) key = option_or (text_in lines key) (text_of_line line key)

abbrev pub HoldsLines : {Y Z S : Type 0} → IndexMap (String Y) (String Z) S → List Shown → Type 0
HoldsLines table lines = (key : List ℕ) → text_at table key ≡ text_in lines key
