-- What a comparison of kept answers rests on.
use Rattle.std.specs.Prelude.{◌≡◌, ◌&&◌, ◌||◌, ℕ, Bool, true, false, not, List, Option}
use Rattle.std.specs.List.{list_any}
use Rattle.std.specs.Option.{option_and_then, option_to_list}
use Rattle.cdi_model.specs.declared.decl.Decl.{Decl}
use Rattle.cdi_model.specs.declared.decl.InterceptorDecl.{InterceptorDecl}
use Rattle.cdi_model.specs.declared.decl.Kind.{Kind}
use Rattle.cdi_model.specs.declared.decl.Kind.TheVariants as kinds
use Rattle.cdi_model.specs.declared.key.DeclKey.{DeclKey}
use Rattle.cdi_model.specs.DeclList.{find_decl, AreDistinct}
use Rattle.cdi_model.specs.Edits.{is_among}
use Rattle.cdi_intercept.specs.Chains.{as_interceptor}
use Rattle.cdi_seen.specs.Touched.{interceptors_alike}
use Rattle.cdi_index.specs.State.{IsEdited}
use Rattle.cdi_index.specs.Told.{Tells}
use Rattle.cdi_live.specs.declared.sides.Sides.{Sides}

abbrev pub is_interceptor : Kind → Bool
is_interceptor kinds.Interceptor = true
is_interceptor other = false

-- the declaration of an interceptor
abbrev pub find_interceptor : List ℕ → List Decl → Option InterceptorDecl
find_interceptor name ds = option_and_then as_interceptor (find_decl kinds.Interceptor name ds)

-- the bindings of an interceptor are filled otherwise over the other list, or it is declared in one of them alone
abbrev pub is_filled_otherwise : List Decl → List Decl → List ℕ → Bool
is_filled_otherwise ds es name =
    not (interceptors_alike ds (option_to_list (find_interceptor name ds)) es (option_to_list (find_interceptor name es)))

-- the key is that of an interceptor that is edited, or of which the bindings are filled otherwise
abbrev pub is_moved : List Decl → List Decl → List DeclKey → DeclKey → Bool
is_moved ds es edited k = is_interceptor k.kind && (is_among edited k || is_filled_otherwise ds es k.name)

-- Edits lead from the one side to the other, and the affected declarations are told, and whether interceptors among them are moved.
-- On neither side two declarations have one kind and name.
pub record IsBetween (sides : Sides) : Type 0 where
  pub distinct : AreDistinct sides.index.now.decls
  pub apart : AreDistinct sides.next.now
  pub edited : IsEdited sides.index.now.decls (record { decls = sides.next.now; keys = sides.edited.now })
  pub told : Tells sides.index.now.decls sides.next.now sides.edited.now sides.affected.now
  pub moves : sides.moves_interceptors ≡ list_any (is_moved sides.index.now.decls sides.next.now sides.edited.now) sides.affected.now
