use Rattle.cdi_model.proofs.Common.{◌≡◌, ℕ, List, [], ◌++◌, HasWritten, IsPlainFormatter}
use denote.Shadow.{shadow}
use denote.Text.{Utf8}
use Rattle.cdi_model.proofs.UseTextLemmas.{pairs_behind}
use Rattle.cdi_model.proofs.display.MembersDisplay.fmt.Given as goal

abbrev pub invariant-loop-name : goal.invariant-loop-name
invariant-loop-name g l = (IsPlainFormatter l.initial.f
    → (written : List ℕ) × (written ++ pairs_behind l.separator l.name-iterator ≡ pairs_behind [] l.self)
    × HasWritten g.W.Write.write_str_gives l.initial.f written l.f)
    × shadow (Utf8 l.separator)
