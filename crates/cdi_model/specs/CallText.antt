-- The texts of call sites.
use Rattle.std.specs.Prelude.{◌≡◌, ℕ, true, ◌&&◌, ◌==◌, List, [], ◌∷◌, ◌++◌, Option, Some, None, if◌then◌else◌, option_map}
use Rattle.cdi_model.specs.Bytes.{dot}
use Rattle.cdi_model.specs.Grammar.{is_ident}
use Rattle.cdi_model.specs.declared.decl.CallDecl.{CallDecl}

-- POINT.METHOD
abbrev pub text_of_call : CallDecl → List ℕ
text_of_call c = c.point ++ dot ∷ c.method

-- The text is that of the call site, and both its parts are identifiers.
pub record SpellsCall (text : List ℕ) (call : CallDecl) : Type 0 where
  pub point : is_ident call.point ≡ true
  pub method : is_ident call.method ≡ true
  pub joined : text ≡ text_of_call call

-- what stands before the first dot, and what behind it, if there is one
abbrev pub around_dot : List ℕ → Option (List ℕ × List ℕ)
around_dot [] = None
around_dot (b ∷ bs) = if b == dot then Some ([], bs) else option_map (λ p. (b ∷ p.0, p.1)) (around_dot bs)

-- the call site of two identifiers
abbrev pub call_between : Option (List ℕ × List ℕ) → Option CallDecl
call_between None = None
call_between (Some p) = if is_ident p.0 && is_ident p.1 then Some (record { point = p.0; method = p.1 }) else None

-- the call site that a text spells
abbrev pub call_of : List ℕ → Option CallDecl
call_of text = call_between (around_dot text)
