-- What one look at all that a declaration names tells of its faults.
use Rattle.std.proofs.Common.{arith, ◌≡◌, Bool, false, not, ◌||◌, ◌&&◌, List, [], ◌∷◌, ◌++◌, Option, None, option_map, refl, sym, ap, ◌∙◌}
use Rattle.std.proofs.Common.{is_some}
use Rattle.std.specs.{List.list_any, Option.option_to_list}
use Rattle.std.proofs.{Math.Bool.or_assoc, lemmas.Bool.false≢true, lemmas.Bool.or_parts}
use Rattle.base_options.proofs.Options.{none-from_is_some}
use Rattle.cdi_model.specs.Mentions.{Mention, CallOf, PointOf, mentions}
use Rattle.cdi_model.specs.declared.{decl.Decl.Decl, decl.PointDecl.PointDecl, mention.PointPlace.PointPlace}
use Rattle.cdi_model.specs.declared.decl.Decl.TheVariants as decls
use Rattle.cdi_bodies.specs.Book.{Promised}
use Rattle.cdi_effective.specs.{Beans.entries, Beans.managed, Specialized.specialized, declared.records.Effective.Effective}
use Rattle.cdi_effective.specs.declared.records.BeanId.{BeanId}
use Rattle.cdi_resolve.specs.declared.choice.Choice.{Choice}
use Rattle.cdi_resolve.specs.declared.choice.Choice.TheVariants as choices_are
use Rattle.cdi_observe.specs.Answers.{answer_to}
use Rattle.cdi_faults.specs.declared.fault.Subject.{Subject}
use Rattle.cdi_faults.specs.declared.fault.Code.TheVariants as codes_of
use Rattle.cdi_faults.specs.declared.fault.Subject.TheVariants as subjects
use Rattle.cdi_subjects.proofs.SpecializedLemmas.{none-specialized}
use Rattle.cdi_subjects.specs.{Filter.found_in, Parts.unfit_in, Sites.lost_in, declared.glance.Glance.Glance}
use Rattle.cdi_subjects.specs.Glance.{is_call, is_wrong_in, requires_final_in, with_mention, MissesNothing, is_unresolved, is_unresolved_in}
use Rattle.cdi_subjects.specs.Specializing.{is_specializing, lacked_types, lacks_specialized, renames_specialized, types_beyond}
use Rattle.cdi_subjects.specs.Subjects.{bad_kind_in, bad_use_in, has_verdict, point_in, unknown_in, whole_if}
use Rattle.cdi_subjects.specs.declared.points.Verdict.TheVariants as verdicts

-- ---- a look that has come to some places

-- what it tells where these are left
abbrev pub behind : List Decl → List Promised → Decl → Glance → List Mention → Glance
behind ds book d glance ms = record {
  is_wrong = glance.is_wrong || list_any (is_wrong_in ds book d) ms;
  is_unresolved = glance.is_unresolved || list_any (is_unresolved_in ds) ms;
  requires_final = glance.requires_final || list_any (requires_final_in ds) ms;
  calls = glance.calls || list_any is_call ms;
  specializes = glance.specializes;
}

behind-next : (ds : List Decl) (book : List Promised) (d : Decl) (glance : Glance) (m : Mention) (ms : List Mention)
    → behind ds book d (with_mention ds book d glance m) ms ≡ behind ds book d glance (m ∷ ms)
behind-next ds book d glance m ms = grind (arith, glance.is_wrong, glance.is_unresolved, glance.requires_final, glance.calls, or_assoc)

-- it tells the same in all once it has come to the next
pub looked-next : (ds : List Decl) (book : List Promised) (d : Decl) (glance next all : Glance) (m : Mention) (ms left : List Mention)
    → next ≡ with_mention ds book d glance m → left ≡ m ∷ ms → behind ds book d glance left ≡ all → behind ds book d next ms ≡ all
looked-next ds book d glance next all m ms left is stands told =
    ap (λ g. behind ds book d g ms) is ∙ behind-next ds book d glance m ms ∙ ap (behind ds book d glance) (sym stands) ∙ told

-- ---- where nothing is found

found-none : (fault_in : Mention → Option Subject) (test : Mention → Bool) → ((m : Mention) → test m ≡ false → fault_in m ≡ None)
    → (ms : List Mention) → list_any test ms ≡ false → found_in fault_in ms ≡ []
found-none fault_in test each [] none = refl
found-none fault_in test each (m ∷ ms) none =
    let (first, others) = or_parts (test m) (list_any test ms) none in
    ap (λ o. option_to_list o ++ found_in fault_in ms) (each m first) ∙ found-none fault_in test each ms others

not-unknown : (ds : List Decl) (book : List Promised) (d : Decl) (m : Mention) → is_wrong_in ds book d m ≡ false → unknown_in ds m ≡ None
not-unknown ds book d m right = grind (arith, none-from_is_some)

right-form : (ds : List Decl) (book : List Promised) (d : Decl) (m : Mention) → is_wrong_in ds book d m ≡ false → bad_kind_in ds d m ≡ None
right-form ds book d m right = grind (arith, none-from_is_some)

right-use : (ds : List Decl) (book : List Promised) (d : Decl) (m : Mention) → is_wrong_in ds book d m ≡ false → bad_use_in ds m ≡ None
right-use ds book d m right = grind (arith, none-from_is_some)

fit-body : (ds : List Decl) (book : List Promised) (d : Decl) (m : Mention) → is_wrong_in ds book d m ≡ false → unfit_in book d m ≡ None
fit-body ds book d m right = none-from_is_some (unfit_in book d m) (or_parts _ (is_some (unfit_in book d m)) right).1

-- a point that does not pass the test is not at fault
point-passes : (test : PointDecl → Choice → Bool) (answer : PointDecl → Choice) (bs : List Effective) (d : Decl) (place : PointPlace)
    (p : PointDecl) → test p (answer p) ≡ false → point_in test answer bs d (PointOf place p) ≡ None
point-passes test answer bs d place p fails = grind (arith, p.name)

-- nor is one that has one bean, where the test fails for one
resolved : (ds : List Decl) (test : PointDecl → Choice → Bool) → ((p : PointDecl) (id : BeanId) → test p (choices_are.One id) ≡ false)
    → (bs : List Effective) (d : Decl) (m : Mention) → is_unresolved_in ds m ≡ false → point_in test (answer_to ds) bs d m ≡ None
resolved ds test fails bs d (PointOf place p) one = grind (arith, point-passes, false≢true)
resolved ds test fails bs d other one = refl

-- nor one whose type lets subclasses be, for these
not-final : (ds : List Decl) (bs : List Effective) (d : Decl) (m : Mention) → requires_final_in ds m ≡ false
    → point_in (has_verdict ds verdicts.Unproxyable) (answer_to ds) bs d m ≡ None
not-final ds bs d (PointOf place p) lets = grind (arith, point-passes)
not-final ds bs d other lets = refl

no-call : (ds : List Decl) (bs : List Effective) (d : Decl) (m : Mention) → is_call m ≡ false → lost_in ds (answer_to ds) bs d m ≡ None
no-call ds bs d (CallOf place params call) none = absurd (false≢true (sym none))
no-call ds bs d other none = refl

-- what does not say that it specializes another has no fault of doing so
none-lacked : (ds : List Decl) (d : Decl) → is_specializing d ≡ false → whole_if (lacks_specialized ds d) ≡ []
none-lacked ds (decls.Bean d) says = ap (λ t. whole_if (t && not (is_some (specialized ds d)))) says
none-lacked ds other says = refl

no-types : (ds : List Decl) (d : Decl) → is_specializing d ≡ false → lacked_types ds d ≡ []
no-types ds (decls.Bean d) says =
    ap (λ o. types_beyond (managed ds d).types (option_map (managed ds) o)) (none-specialized ds d says)
no-types ds other says = refl

no-name : (ds : List Decl) (d : Decl) → is_specializing d ≡ false → whole_if (renames_specialized ds d) ≡ []
no-name ds (decls.Bean d) says = grind (arith, d.attributes.named, none-specialized)
no-name ds other says = refl

pub misses_nothing : MissesNothing
misses_nothing ds book d codes_of.UnknownName none = found-none (unknown_in ds) _ (not-unknown ds book d) (mentions d) none
misses_nothing ds book d codes_of.BadKind none = found-none (bad_kind_in ds d) _ (right-form ds book d) (mentions d) none
misses_nothing ds book d codes_of.Member none = found-none (bad_use_in ds) _ (right-use ds book d) (mentions d) none
misses_nothing ds book d codes_of.Body none = found-none (unfit_in book d) _ (fit-body ds book d) (mentions d) none
misses_nothing ds book d codes_of.Unsatisfied none =
    found-none _ _ (resolved ds (has_verdict ds verdicts.Unsatisfied) (λ p id. refl) (entries ds d) d) (mentions d) none
misses_nothing ds book d codes_of.Ambiguous none =
    found-none _ _ (resolved ds (has_verdict ds verdicts.Ambiguous) (λ p id. refl) (entries ds d) d) (mentions d) none
misses_nothing ds book d codes_of.Unproxyable none = found-none _ _ (not-final ds (entries ds d) d) (mentions d) none
misses_nothing ds book d codes_of.Site none = found-none _ _ (no-call ds (entries ds d) d) (mentions d) none
misses_nothing ds book d codes_of.NameClash none = refl
misses_nothing ds book d codes_of.NamePrefix none = refl
misses_nothing ds book d codes_of.Circular none = refl
misses_nothing ds book d codes_of.NoSpecialized none = none-lacked ds d none
misses_nothing ds book d codes_of.SpecializedType none = no-types ds d none
misses_nothing ds book d codes_of.SpecializedName none = no-name ds d none
misses_nothing ds book d codes_of.SpecializedTwice none = refl
misses_nothing ds book d other none = absurd (false≢true (sym none))
