-- What declarations rest on: what they give to keys, and what the keys that they ask for see apart from what declarations give.
use Rattle.std.specs.Prelude.{◌≡◌, Bool, false, true, List, [], ◌∷◌, ◌++◌, map, flat_map, unwrap_or, Option, Some, None}
use Rattle.cdi_model.specs.Decl.{declared_as, key_of, kind_of, name_of_decl}
use Rattle.cdi_model.specs.DeclList.{find_decl}
use Rattle.cdi_model.specs.DeclKey.{key_at}
use Rattle.cdi_model.specs.Edits.{edited_all, edited_keys, is_among, Avoid}
use Rattle.cdi_model.specs.declared.decl.BeanDecl.{BeanDecl}
use Rattle.cdi_model.specs.declared.decl.Decl.{Decl}
use Rattle.cdi_model.specs.declared.decl.Decl.TheVariants as decls
use Rattle.cdi_model.specs.declared.decl.Kind.TheVariants as kinds
use Rattle.cdi_model.specs.declared.decl.ObserverDecl.{ObserverDecl}
use Rattle.cdi_model.specs.declared.decl.UseKind.{UseKind}
use Rattle.cdi_model.specs.declared.decl.UseKind.TheVariants as uses
use Rattle.cdi_model.specs.declared.edit.Edit.{Edit}
use Rattle.cdi_model.specs.declared.key.DeclKey.{DeclKey}
use Rattle.cdi_model.specs.declared.place.BeanPlace.{BeanPlace}
use Rattle.cdi_model.specs.declared.quals.Qual.{Qual}
use Rattle.cdi_match.specs.Locality.{binding_reads, type_reads}
use Rattle.cdi_effective.specs.Beans.{entries, own_records}
use Rattle.cdi_effective.specs.Disposers.{find_bean}
use Rattle.cdi_effective.specs.Qualifiers.{required}
use Rattle.cdi_effective.specs.Reads.{qualifier_reads, record_reads}
use Rattle.cdi_intercept.specs.Sets.{own_at}
use Rattle.cdi_observe.specs.Keys.{Key, ChainKey, ChoiceKey, EventKey}
use Rattle.cdi_observe.specs.Wanted.{wanted_by}

-- some uses rest on the declarations of what is used
abbrev pub use_reads : UseKind → List Qual → List DeclKey
use_reads kind us = map (λ u. key_at (declared_as kind) u.name) us

-- ---- what is given

-- observer methods rest on the declarations of their qualifiers
abbrev pub method_reads : List ObserverDecl → List DeclKey
method_reads methods = flat_map (λ o. use_reads uses.Qualifier o.qualifiers) methods

-- What a declaration gives to keys: a bean its records with their filled qualifiers, and its observer methods with theirs; an interceptor
-- itself with its filled bindings. Whether another bean replaces it is asked apart from this.
abbrev pub given_reads : List Decl → Decl → List DeclKey
given_reads ds (decls.Bean b) = record_reads ds b ++ qualifier_reads (own_records ds b) ++ method_reads b.observers
given_reads ds (decls.Interceptor i) = use_reads uses.Binding i.bindings
given_reads ds other = []

-- ---- what keys see apart from what is given

-- the bindings that a place of a bean declares of its own
abbrev pub own_bindings : BeanDecl → BeanPlace → List Qual
own_bindings b place = unwrap_or (own_at b place) []

-- The bindings at a place of a bean rest on those of its class, and on the binding types that its own bring. The types of them all are
-- among these.
abbrev pub place_reads : List Decl → BeanPlace → Option BeanDecl → List DeclKey
place_reads ds place None = []
place_reads ds place (Some b) = record_reads ds b ++ binding_reads ds (own_bindings b place)

-- The own part of a key: for a choice the declarations of its qualifiers, `Default` where none is named; for a chain the bean, the
-- bindings at the place and the declarations of their types; for an event its types and the declarations of its qualifiers.
abbrev pub own_reads : List Decl → Key → List DeclKey
own_reads ds (ChoiceKey t us) = use_reads uses.Qualifier (required us)
own_reads ds (ChainKey class place) = key_at kinds.Bean class ∷ place_reads ds place (find_bean class ds)
own_reads ds (EventKey t us) = type_reads ds t ++ use_reads uses.Qualifier us

-- all that a declaration rests on: itself, what it gives, and the own part of each key that it asks for
unfoldable pub rests : List Decl → Decl → List DeclKey
rests ds d = key_of d ∷ given_reads ds d ++ flat_map (own_reads ds) (wanted_by d)

-- ---- what is affected

-- a declaration is found by its kind and name
abbrev pub IsPresent : List Decl → Decl → Type 0
IsPresent ds d = find_decl (kind_of d) (name_of_decl d) ds ≡ Some d

-- which beans of a declaration are enabled
abbrev pub enabled_of : List Decl → Decl → List Bool
enabled_of ds d = map (λ b. b.is_enabled) (entries ds d)

-- A test tells what edits affect. It is true of what they put or remove, and of each present declaration that rests on such. It is also
-- true of each whose beans are not enabled as before.
pub record TellsAffected (ds : List Decl) (edits : List Edit) (is_affected : Decl → Bool) : Type 0 where
  pub edited : (d : Decl) → is_among (edited_keys edits) (key_of d) ≡ true → is_affected d ≡ true
  pub apart : (d : Decl) → IsPresent ds d → is_affected d ≡ false → Avoid (rests ds d) edits
  pub enabled : (d : Decl) → IsPresent ds d → is_affected d ≡ false → enabled_of (edited_all ds edits) d ≡ enabled_of ds d
