-- What a check of a declaration says of those that texts spell.
use Rattle.std.specs.Prelude.{◌≡◌, ℕ, List, None, Ok}
use Rattle.cdi_admission.specs.Admission.{refusal_of_decl}
use Rattle.cdi_model.specs.declared.decl.Decl.{Decl}
use Rattle.cdi_text.specs.Reading.{decl_of}

-- What a text spells is refused for nothing.
abbrev pub TextsAreAdmitted : Type 0
TextsAreAdmitted = (text : List ℕ) (d : Decl) → decl_of text ≡ Ok d → refusal_of_decl d ≡ None
