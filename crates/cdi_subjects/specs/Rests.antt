-- What the faults of a declaration rest on: its records, the answers to its injection points, what the names that it writes are declared as,
-- and the bean that it specializes.
use Rattle.std.specs.Prelude.{◌≡◌, ⊤, ℕ, List, Option, Some, None, option_map}
use Rattle.std.specs.List.{AllByRecursion}
use Rattle.cdi_bodies.specs.Book.{Promised}
use Rattle.cdi_model.specs.Decl.{declared_as}
use Rattle.cdi_model.specs.DeclList.{find_decl}
use Rattle.cdi_model.specs.Mentions.{Mention, TypeIn, UseOf, StereotypeOf, PointOf, mentions}
use Rattle.cdi_model.specs.declared.decl.Decl.{Decl}
use Rattle.cdi_model.specs.declared.decl.Decl.TheVariants as decls
use Rattle.cdi_model.specs.declared.decl.Kind.{Kind}
use Rattle.cdi_model.specs.declared.decl.Kind.TheVariants as kinds
use Rattle.cdi_model.specs.declared.decl.PointDecl.{PointDecl}
use Rattle.cdi_model.specs.declared.place.BeanPlace.{BeanPlace}
use Rattle.cdi_effective.specs.Beans.{entries}
use Rattle.cdi_effective.specs.Bindings.{class_bindings}
use Rattle.cdi_effective.specs.declared.records.BeanId.{BeanId}
use Rattle.cdi_effective.specs.declared.records.Effective.{Effective}
use Rattle.cdi_intercept.specs.Conflicts.{has_conflict}
use Rattle.cdi_intercept.specs.Sets.{set_by}
use Rattle.cdi_resolve.specs.declared.choice.Choice.TheVariants.{One}
use Rattle.cdi_observe.specs.Answers.{answer_to}
use Rattle.cdi_observe.specs.Wanted.{points_of}
use Rattle.cdi_faults.specs.declared.fault.Code.{Code}
use Rattle.cdi_subjects.specs.Proxies.{needs_subclass}
use Rattle.cdi_subjects.specs.Sites.{has_method}
use Rattle.cdi_subjects.specs.Specializing.{specialized_bean}
use Rattle.cdi_subjects.specs.Subjects.{products, reaches_itself, subjects_at_fault}

-- ---- what a declaration writes

-- the kind and the name of what is named in one place
abbrev pub named_in : Mention → Option (Kind × List ℕ)
named_in (TypeIn place t) = Some (kinds.Type, t)
named_in (UseOf kind u) = Some (declared_as kind, u.name)
named_in (StereotypeOf s) = Some (kinds.Stereotype, s)
named_in (PointOf place p) = Some (kinds.Type, p.required_type)
named_in _ = None

-- two lists of declarations declare alike what is named
abbrev pub AreAlike : List Decl → List Decl → Option (Kind × List ℕ) → Type 0
AreAlike ds es None = ⊤
AreAlike ds es (Some key) = find_decl key.0 key.1 ds ≡ find_decl key.0 key.1 es

-- ---- its records

-- the qualifiers that a record has are declared alike
abbrev pub HasQualifiersAlike : List Decl → List Decl → Effective → Type 0
HasQualifiersAlike ds es b = AllByRecursion (λ u. find_decl kinds.Qualifier u.name ds ≡ find_decl kinds.Qualifier u.name es) b.qualifiers

-- so are those that its products have
abbrev pub AreProductsAlike : List Decl → List Decl → Decl → Type 0
AreProductsAlike ds es (decls.Bean d) = AllByRecursion (HasQualifiersAlike ds es) (products ds d)
AreProductsAlike ds es d = ⊤

-- the bindings at each place of a bean differ by both lists or by neither
abbrev pub DifferAlike : List Decl → List Decl → Decl → Type 0
DifferAlike ds es (decls.Bean d) = (place : BeanPlace)
    → has_conflict ds (set_by ds (class_bindings ds d) d place) ≡ has_conflict es (set_by es (class_bindings es d) d place)
DifferAlike ds es d = ⊤

-- ---- the bean that it specializes

abbrev pub types_and_name : Effective → List (List ℕ) × Option (List ℕ)
types_and_name b = (b.types, b.name)

-- what is seen of it, if there is one
abbrev pub specialized_seen : List Decl → Decl → Option (List (List ℕ) × Option (List ℕ))
specialized_seen ds (decls.Bean d) = option_map types_and_name (specialized_bean ds d)
specialized_seen ds d = None

-- ---- the answers to its injection points

-- a bean needs a subclass for its instances by both lists or by neither, and has the same methods by both
pub record IsBeanAlike (ds es : List Decl) (id : BeanId) : Type 0 where
  pub subclass : needs_subclass ds id ≡ needs_subclass es id
  pub methods : (method : List ℕ) → has_method ds id method ≡ has_method es id method

-- by both lists the same is chosen for a point, and of a bean that is chosen the same is known
pub record IsAnsweredAlike (ds es : List Decl) (p : PointDecl) : Type 0 where
  pub answer : answer_to ds p ≡ answer_to es p
  pub bean : (id : BeanId) → answer_to ds p ≡ One id → IsBeanAlike ds es id

-- ---- the law

-- all that the faults of a declaration rest on is the same by two lists of declarations
pub record IsSeenAlike (ds es : List Decl) (d : Decl) : Type 0 where
  -- what the names that it writes are declared as
  pub names : AllByRecursion (λ m. AreAlike ds es (named_in m)) (mentions d)
  -- its records, and what the qualifiers of its products are declared as
  pub records : entries ds d ≡ entries es d
  pub qualifiers : AreProductsAlike ds es d
  -- what is seen of the bean that it specializes
  pub specialized : specialized_seen ds d ≡ specialized_seen es d
  -- the answers to its points
  pub answers : AllByRecursion (IsAnsweredAlike ds es) (points_of d)
  -- what its name and its bindings lead to
  pub circle : reaches_itself ds d ≡ reaches_itself es d
  pub bindings : DifferAlike ds es d

-- The faults of a declaration rest on nothing else.
abbrev pub FaultsRestOn : Type 0
FaultsRestOn = (code : Code) (ds es : List Decl) (book : List Promised) (d : Decl) → IsSeenAlike ds es d
    → subjects_at_fault code ds book d ≡ subjects_at_fault code es book d
