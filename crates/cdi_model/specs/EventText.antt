-- The texts of qualifiers and of an event.
use Rattle.std.specs.Prelude.{ℕ, List, [], ◌∷◌, ◌++◌}
use Rattle.std.specs.List.{flat_map}
use Rattle.cdi_model.specs.Bytes.{space}
use Rattle.cdi_model.specs.UseText.{text_of_use}
use Rattle.cdi_model.specs.declared.decl.EventDecl.{EventDecl}
use Rattle.cdi_model.specs.declared.quals.Qual.{Qual}

-- qualifiers, each behind a space
abbrev pub text_of_uses : List Qual → List ℕ
text_of_uses uses = flat_map (λ u. space ∷ text_of_use u) uses

-- USE USE
abbrev pub text_of_quals : List Qual → List ℕ
text_of_quals [] = []
text_of_quals (u ∷ us) = text_of_use u ++ text_of_uses us

-- TYPE USE USE
abbrev pub text_of_event : EventDecl → List ℕ
text_of_event e = e.event_type ++ text_of_uses e.qualifiers
