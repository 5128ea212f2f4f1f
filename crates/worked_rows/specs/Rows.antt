-- The lines of a row's block.
use Rattle.std.specs.Prelude.{◌≡◌, ◌≢◌, ℕ, List, [], ◌∷◌, ◌++◌, codes, string_bytes}
use Rattle.cdi_script.specs.Bytes.{feed}
use Rattle.worked_rows.specs.declared.rows.BlockLine.{BlockLine}
use Rattle.worked_rows.specs.declared.rows.BlockLine.TheVariants.{Answer, Script}
use Rattle.worked_rows.specs.declared.rows.Row.{Row}

-- behind `> ` stands an answer, and any other line is one of the script
abbrev pub IsBlockLine : List ℕ → BlockLine → Type 0
IsBlockLine line (Answer text) = line ≡ codes "> " ++ text.now
IsBlockLine line (Script text) = (text.now ≡ line) × ((rest : List ℕ) → line ≢ codes "> " ++ rest)

-- a row wants the answer behind the last line of its script
pub record WantsFurther (answer : List ℕ) (old new : Row) : Type 0 where
  pub wanted : string_bytes new.wanted ≡ string_bytes old.wanted ++ answer ++ feed ∷ []
  pub commands : new.commands.items ≡ old.commands.items ++ old.last ∷ []
  pub script : new.script.items ≡ old.script.items
  pub last : new.last.now ≡ old.last.now
  pub quiet : new.quiet ≡ old.quiet
  pub counted : new.counted ≡ old.counted

-- a row's script has the line at its end
pub record RunsFurther (line : List ℕ) (old new : Row) : Type 0 where
  pub script : new.script.items ≡ old.script.items ++ line ++ feed ∷ []
  pub last : new.last.now ≡ line
  pub wanted : string_bytes new.wanted ≡ string_bytes old.wanted
  pub commands : new.commands.items ≡ old.commands.items
  pub quiet : new.quiet ≡ old.quiet
  pub counted : new.counted ≡ old.counted

-- a row takes a line of its block
abbrev pub TakesLine : BlockLine → Row → Row → Type 0
TakesLine (Answer text) old new = WantsFurther text.now old new
TakesLine (Script text) old new = RunsFurther text.now old new
