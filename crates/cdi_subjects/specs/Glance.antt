-- What one look at all that a declaration names tells of its faults.
use Rattle.std.specs.Prelude.{◌≡◌, Bool, true, false, ◌||◌, List, [], is_some}
use Rattle.std.specs.List.{list_any}
use Rattle.cdi_bodies.specs.Book.{Promised}
use Rattle.cdi_model.specs.declared.decl.Decl.{Decl}
use Rattle.cdi_model.specs.Mentions.{Mention, CallOf, PointOf, mentions}
use Rattle.cdi_resolve.specs.declared.choice.Choice.{Choice}
use Rattle.cdi_resolve.specs.declared.choice.Choice.TheVariants.{One}
use Rattle.cdi_observe.specs.Answers.{answer_to}
use Rattle.cdi_faults.specs.declared.fault.Code.{Code}
use Rattle.cdi_faults.specs.declared.fault.Code.TheVariants as codes_of
use Rattle.cdi_subjects.specs.declared.glance.Glance.{Glance}
use Rattle.cdi_subjects.specs.Parts.{unfit_in}
use Rattle.cdi_subjects.specs.Proxies.{is_final}
use Rattle.cdi_subjects.specs.Specializing.{is_specializing}
use Rattle.cdi_subjects.specs.Subjects.{bad_kind_in, bad_use_in, subjects_at_fault, unknown_in}

-- what is named in a place is unknown, of the wrong form, a use that does not fit, or a body that is not fit
abbrev pub is_wrong_in : List Decl → List Promised → Decl → Mention → Bool
is_wrong_in ds book d m =
    ((is_some (unknown_in ds m) || is_some (bad_kind_in ds d m)) || is_some (bad_use_in ds m)) || is_some (unfit_in book d m)

-- no bean is chosen, or several are
abbrev pub is_unresolved : Choice → Bool
is_unresolved (One id) = false
is_unresolved _ = true

-- an injection point has no bean, or several
abbrev pub is_unresolved_in : List Decl → Mention → Bool
is_unresolved_in ds (PointOf place point) = is_unresolved (answer_to ds point)
is_unresolved_in ds _ = false

-- an injection point requires a class that may have no subclass
abbrev pub requires_final_in : List Decl → Mention → Bool
requires_final_in ds (PointOf place point) = is_final ds point.required_type
requires_final_in ds _ = false

abbrev pub is_call : Mention → Bool
is_call (CallOf place params call) = true
is_call _ = false

-- whether there is such a place among all that the declaration names, for each of the four, and whether it is of a bean that says that it
-- specializes another
abbrev pub glance_at : List Decl → List Promised → Decl → Glance
glance_at ds book d = record {
  is_wrong = list_any (is_wrong_in ds book d) (mentions d);
  is_unresolved = list_any (is_unresolved_in ds) (mentions d);
  requires_final = list_any (requires_final_in ds) (mentions d);
  calls = list_any is_call (mentions d);
  specializes = is_specializing d;
}

-- a look that has come to one more place
abbrev pub with_mention : List Decl → List Promised → Decl → Glance → Mention → Glance
with_mention ds book d glance m = record {
  is_wrong = glance.is_wrong || is_wrong_in ds book d m;
  is_unresolved = glance.is_unresolved || is_unresolved_in ds m;
  requires_final = glance.requires_final || requires_final_in ds m;
  calls = glance.calls || is_call m;
  specializes = glance.specializes;
}

-- some part may have a fault of the code, by a look at the declaration
abbrev pub may_find : Glance → Code → Bool
may_find glance codes_of.UnknownName = glance.is_wrong
may_find glance codes_of.BadKind = glance.is_wrong
may_find glance codes_of.Member = glance.is_wrong
may_find glance codes_of.Body = glance.is_wrong
may_find glance codes_of.Unsatisfied = glance.is_unresolved
may_find glance codes_of.Ambiguous = glance.is_unresolved
may_find glance codes_of.Unproxyable = glance.requires_final
may_find glance codes_of.Site = glance.calls
may_find glance codes_of.NameClash = false
may_find glance codes_of.NamePrefix = false
may_find glance codes_of.Circular = false
may_find glance codes_of.NoSpecialized = glance.specializes
may_find glance codes_of.SpecializedType = glance.specializes
may_find glance codes_of.SpecializedName = glance.specializes
may_find glance codes_of.SpecializedTwice = false
may_find glance _ = true

-- No part has a fault of a code of which none may have one by a look at the declaration.
abbrev pub MissesNothing : Type 0
MissesNothing = (ds : List Decl) (book : List Promised) (d : Decl) (code : Code) → may_find (glance_at ds book d) code ≡ false
    → subjects_at_fault code ds book d ≡ []
