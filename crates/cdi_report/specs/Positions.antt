-- The positions of declarations.
use Rattle.std.specs.Prelude.{ℕ, nat_eq, Bool, false, List, [], ◌∷◌, position, slice_get}
use Rattle.std.specs.Option.{option_map_or}
use Rattle.cdi_model.specs.DeclList.{is_of}
use Rattle.cdi_model.specs.declared.decl.Decl.{Decl}
use Rattle.cdi_model.specs.declared.key.DeclKey.{DeclKey}

-- it is the position of the declaration of a key
abbrev pub is_at : List Decl → DeclKey → ℕ → Bool
is_at ds k p = option_map_or (λ i. nat_eq i p) (position (is_of k.kind k.name) ds) false

-- the declaration at a position
abbrev pub decls_at : List Decl → ℕ → List Decl
decls_at ds p = option_map_or (λ d. d ∷ []) (slice_get ds p) []
