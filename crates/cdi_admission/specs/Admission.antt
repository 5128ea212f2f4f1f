-- What a declaration that a program makes is refused for: what a text is refused for, as far as the types of a declaration leave it open.
use Rattle.std.specs.Prelude.{ℕ, Bool, false, not, ◌||◌, nat_lt, List, [], ◌∷◌, ◌++◌, length, map, flat_map, codes, if◌then◌else◌}
use Rattle.std.specs.Prelude.{Option, Some, None, Result, Ok, Err}
use Rattle.std.specs.List.{list_any}
use Rattle.std.specs.Str.{bytes_eq}
use Rattle.cdi_model.specs.Decl.{kind_of, name_of_decl}
use Rattle.cdi_model.specs.Mentions.{Mention, UseOf, EventOf, listed_types, mentions}
use Rattle.cdi_model.specs.Quals.{list_limit}
use Rattle.cdi_model.specs.declared.decl.Attributes.{Attributes}
use Rattle.cdi_model.specs.declared.decl.Decl.{Decl}
use Rattle.cdi_model.specs.declared.decl.Decl.TheVariants as decls
use Rattle.cdi_model.specs.declared.decl.Kind.{Kind}
use Rattle.cdi_model.specs.declared.decl.Kind.TheVariants as kinds
use Rattle.cdi_model.specs.declared.decl.PartDecl.{PartDecl}
use Rattle.cdi_model.specs.declared.decl.PointDecl.{PointDecl}
use Rattle.cdi_model.specs.declared.decl.ProducerDecl.{ProducerDecl}
use Rattle.cdi_model.specs.declared.quals.Arguments.{Arguments}
use Rattle.cdi_model.specs.declared.quals.Arguments.TheVariants as arguments
use Rattle.cdi_model.specs.declared.quals.Qual.{Qual}
use Rattle.cdi_model.specs.declared.refusal.Refusal.{Refusal}
use Rattle.cdi_model.specs.declared.refusal.Refusal.TheVariants.{BadName, Twice, ListTooLong}
use Rattle.cdi_uses.specs.Twice.{has_twice, is_text_among}
use Rattle.cdi_uses.specs.Uses.{is_named, is_plain}

-- ---- a name is malformed or reserved

-- what cannot be declared
abbrev pub is_built_in : Kind → List ℕ → Bool
is_built_in kinds.Type name = bytes_eq name (codes "Object")
is_built_in kinds.Qualifier name = is_plain name || is_named name
is_built_in other name = false

-- the use is of none of the forms `Name`, `Name(m=v,m=v)` and `Named(n)`, of which `Any` and `Default` have the first alone
abbrev pub is_no_use : Qual → Bool
is_no_use u = are_wrong u.name u.arguments
  where
    are_wrong : List ℕ → Arguments → Bool
    are_wrong name (arguments.Name inner) = not (is_named name)
    are_wrong name (arguments.Members []) = is_named name
    are_wrong name (arguments.Members (m ∷ ms)) = is_named name || is_plain name

abbrev pub is_of_named : Qual → Bool
is_of_named u = is_named u.name

abbrev pub is_of_default : Qual → Bool
is_of_default u = bytes_eq u.name (codes "Default")

-- in this place stands what is no use, or an event that has `Default`
abbrev pub is_malformed : Mention → Bool
is_malformed (UseOf kind u) = is_no_use u
is_malformed (EventOf e) = list_any is_of_default e.qualifiers
is_malformed _ = false

-- a bean or one of its producer methods declares `Named` as a qualifier
abbrev pub declares_named : Decl → Bool
declares_named (decls.Bean d) = list_any is_of_named d.attributes.qualifiers
    || list_any (λ p. list_any is_of_named p.attributes.qualifiers) d.producers
declares_named d = false

-- one of its observer methods asks for `Default`
abbrev pub observes_default : Decl → Bool
observes_default (decls.Bean d) = list_any (λ o. list_any is_of_default o.qualifiers) d.observers
observes_default d = false

-- something built in is declared, some place is malformed, `Named` is declared as a qualifier, or `Default` is observed
abbrev pub has_bad_name : Decl → Bool
has_bad_name d = is_built_in (kind_of d) (name_of_decl d) || list_any is_malformed (mentions d) || declares_named d || observes_default d

-- ---- a name stands twice

abbrev pub point_names : List PointDecl → List (List ℕ)
point_names points = map (λ p. p.name) points

abbrev pub lists_of_attributes : Attributes → List (List (List ℕ))
lists_of_attributes a = listed_types a ∷ a.stereotypes ∷ []

abbrev pub lists_of_producer : ProducerDecl → List (List (List ℕ))
lists_of_producer p = lists_of_attributes p.attributes ++ point_names p.params ∷ []

-- the lists in which a name stands once: those of names, and the names of what the others list
abbrev pub name_lists : Decl → List (List (List ℕ))
name_lists (decls.Type d) = d.implements ∷ []
name_lists (decls.Qualifier d) = map (λ m. m.name) d.members ∷ []
name_lists (decls.Binding d) = map (λ m. m.name) d.members ∷ []
name_lists (decls.Stereotype d) = d.stereotypes ∷ []
name_lists (decls.Bean d) = lists_of_attributes d.attributes
    ++ (point_names d.points ∷ map (λ m. m.name) d.methods ∷ map (λ p. p.name) d.producers ∷ map (λ s. s.name) d.disposers
    ∷ map (λ o. o.name) d.observers ∷ [])
    ++ flat_map lists_of_producer d.producers ++ map (λ o. point_names o.params) d.observers
name_lists (decls.Interceptor d) = point_names d.points ∷ []

-- a param has the name of a point
abbrev pub shares_name : List PointDecl → List PointDecl → Bool
shares_name points params = list_any (λ p. is_text_among (point_names points) p.name) params

-- a param of a producer method or of an observer method has the name of one of the bean's points
abbrev pub has_param_named_as_point : Decl → Bool
has_param_named_as_point (decls.Bean d) = list_any (λ p. shares_name d.points p.params) d.producers
    || list_any (λ o. shares_name d.points o.params) d.observers
has_param_named_as_point d = false

-- a name stands twice in a list, or a param has the name of a point
abbrev pub repeats_name : Decl → Bool
repeats_name d = list_any has_twice (name_lists d) || has_param_named_as_point d

-- ---- a list is too long

abbrev pub is_long : {X : Type 0} → List X → Bool
is_long xs = nat_lt list_limit (length xs)

-- the part has too many call sites, or too many events
abbrev pub is_long_part : PartDecl → Bool
is_long_part part = is_long part.calls || is_long part.fires

-- a part is there, and has
abbrev pub is_long_one : Option PartDecl → Bool
is_long_one None = false
is_long_one (Some part) = is_long_part part

-- some part has
abbrev pub has_long_part : Decl → Bool
has_long_part (decls.Bean d) = is_long_one d.construct || is_long_one d.post || is_long_one d.pre
    || list_any (λ m. is_long_part m.part) d.methods || list_any (λ p. is_long_part p.part) d.producers
    || list_any (λ o. is_long_part o.part) d.observers
has_long_part (decls.Interceptor d) = is_long_one d.around_invoke || is_long_one d.around_construct || is_long_one d.post
    || is_long_one d.pre
has_long_part d = false

-- some list of names has too many entries, or some part has too many call sites or events
abbrev pub has_long_list : Decl → Bool
has_long_list d = list_any is_long (name_lists d) || has_long_part d

-- ---- the first of these

unfoldable pub refusal_of_decl : Decl → Option Refusal
refusal_of_decl d =
    if has_bad_name d then Some BadName
    else if repeats_name d then Some Twice
    else if has_long_list d then Some ListTooLong
    else None

-- what a check of the declaration answers
abbrev pub admission_of : Decl → Result (Unit {0}) Refusal
admission_of d = refused_or_done (refusal_of_decl d)
  where
    refused_or_done : Option Refusal → Result (Unit {0}) Refusal
    refused_or_done None = Ok tt
    refused_or_done (Some refusal) = Err refusal
