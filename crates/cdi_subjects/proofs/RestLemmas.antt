-- The faults of a declaration rest on its records, the answers to its points, what the names that it writes are declared as, and the bean
-- that it specializes.
use Rattle.std.proofs.Common.{arith, ◌≡◌, ℕ, Bool, not, cond, ◌&&◌, ◌||◌, List, [], ◌∷◌, ◌++◌, map, filter, length, nat_lt, Option, Some}
use Rattle.std.proofs.Common.{None, is_some, option_map, refl, sym, ap, ◌∙◌, flat_map}
use Rattle.std.specs.{List.AllByRecursion, List.find, List.list_any, Option.option_to_list, Str.bytes_eq}
use Rattle.base_lists.proofs.{Each.all-weaker, Each.all-append, Any.any-alike, Filters.filter-alike, Filters.filter-same, Flat.flat-same}
use Rattle.cdi_model.specs.Mentions.{Mention, TypeIn, UseOf, StereotypeOf, PointOf, CallOf, mentions}
use Rattle.cdi_model.specs.{DeclList.find_decl, declared.decl.BeanDecl.BeanDecl, declared.decl.Decl.Decl}
use Rattle.cdi_model.specs.declared.{decl.DisposerDecl.DisposerDecl, decl.PointDecl.PointDecl, mention.TypePlace.TypePlace, quals.Qual.Qual}
use Rattle.cdi_model.specs.declared.place.{BeanPlace.BeanPlace, PartPlace.PartPlace}
use Rattle.cdi_model.specs.declared.decl.Decl.TheVariants as decls
use Rattle.cdi_model.specs.declared.decl.Kind.TheVariants as kinds
use Rattle.cdi_model.specs.declared.decl.UseKind.TheVariants as uses
use Rattle.cdi_model.specs.declared.mention.TypePlace.TheVariants as types_are
use Rattle.cdi_model.specs.declared.place.BeanPlace.TheVariants as spots
use Rattle.cdi_model.specs.declared.place.PartPlace.TheVariants as places
use Rattle.cdi_bodies.specs.Book.{Promised}
use Rattle.cdi_match.specs.{Chain.has, Filling.as_binding, Filling.as_qualifier, Misuse.misuses, Types.object}
use Rattle.cdi_effective.specs.Beans.{entries, managed, product}
use Rattle.cdi_effective.specs.{Bindings.class_bindings, Disposers.disposes, Specialized.specialized, declared.records.BeanId.BeanId}
use Rattle.cdi_effective.specs.{Qualifiers.cover_all, Qualifiers.required, Qualifiers.some_covers, declared.records.Effective.Effective}
use Rattle.cdi_resolve.specs.declared.choice.Choice.{Choice}
use Rattle.cdi_resolve.specs.declared.choice.Choice.TheVariants as choices
use Rattle.cdi_observe.specs.{Answers.answer_to, Wanted.point_named}
use Rattle.cdi_faults.specs.declared.fault.Subject.{Subject}
use Rattle.cdi_faults.specs.declared.fault.Code.TheVariants as codes_of
use Rattle.cdi_faults.specs.declared.fault.Subject.TheVariants as subjects
use Rattle.cdi_subjects.proofs.AnsweredLemmas.{all-parts, each-given, each-own}
use Rattle.cdi_subjects.proofs.RecordLemmas.{conditional_by_entries, disposers_of_records, typed_by_entries}
use Rattle.cdi_subjects.specs.Filter.{found_in, is_enabled_in, producer_of_part, some_if}
use Rattle.cdi_subjects.specs.Records.{conditional_by, conflict_at, conflicts_in, part_at, typed_by, with_two, without_product}
use Rattle.cdi_subjects.specs.Rests.{AreAlike, DifferAlike, FaultsRestOn, HasQualifiersAlike, IsAnsweredAlike, IsBeanAlike, IsSeenAlike}
use Rattle.cdi_subjects.specs.Rests.{AreProductsAlike, named_in, specialized_seen, types_and_name}
use Rattle.cdi_subjects.specs.Sites.{is_lost_among, lacks_method, lost_in, own_points, own_seen, params_given, points_seen}
use Rattle.cdi_subjects.specs.Specializing.{has_name, lacked_types, lacks_specialized, renames_specialized, specialized_bean, types_beyond}
use Rattle.cdi_subjects.specs.Subjects.{bad_kind_in, bad_use_in, disposers_at_fault, form_of, has_verdict, is_class_form, is_interface_form}
use Rattle.cdi_subjects.specs.Subjects.{is_known_in, point_in, scope_conflicts, subjects_at_fault, unknown_in, whole_if}
use Rattle.cdi_subjects.specs.{Proxies.is_unproxyable, declared.points.Verdict.Verdict}
use Rattle.cdi_subjects.specs.declared.points.Verdict.TheVariants as verdicts

-- ---- what holds of each

found-same : (f g : Mention → Option Subject) (ms : List Mention) → AllByRecursion (λ m. f m ≡ g m) ms → found_in f ms ≡ found_in g ms
found-same f g [] same = refl
found-same f g (m ∷ ms) same = ap (λ o. option_to_list o ++ found_in f ms) same.0
    ∙ ap (λ l. option_to_list (g m) ++ l) (found-same f g ms same.1)

-- ---- names

known-same : (ds es : List Decl) (place : TypePlace) (t : List ℕ) → find_decl kinds.Type t ds ≡ find_decl kinds.Type t es
    → is_known_in ds place t ≡ is_known_in es place t
known-same ds es types_are.Class t e = ap is_some e
known-same ds es other t e = ap (λ o. bytes_eq t object || is_some o) e

unknown-same : (ds es : List Decl) (m : Mention) → AreAlike ds es (named_in m) → unknown_in ds m ≡ unknown_in es m
unknown-same ds es (TypeIn place t) e = ap (λ b. some_if (not b) (subjects.Type t)) (known-same ds es place t e)
unknown-same ds es (UseOf uses.Qualifier u) e = grind (arith, u.name)
unknown-same ds es (UseOf uses.Binding u) e = ap (λ o. some_if (not (is_some o)) (subjects.Used uses.Binding u.name)) e
unknown-same ds es (StereotypeOf s) e = ap (λ o. some_if (not (is_some o)) (subjects.Stereotype s)) e
unknown-same ds es other e = refl

form-same : (ds es : List Decl) (d : Decl) (place : TypePlace) (t : List ℕ) → find_decl kinds.Type t ds ≡ find_decl kinds.Type t es
    → bad_kind_in ds d (TypeIn place t) ≡ bad_kind_in es d (TypeIn place t)
form-same ds es d types_are.Class t e = ap (λ o. some_if (is_interface_form (form_of o)) subjects.Class) e
form-same ds es d types_are.Extends t e =
    ap (λ o. some_if (is_interface_form (form_of (Some d)) || is_interface_form (form_of o)) (subjects.Extends t)) e
form-same ds es d types_are.Implements t e = ap (λ o. some_if (bytes_eq t object || is_class_form (form_of o)) (subjects.Implements t)) e
form-same ds es d other t e = refl

bad-kind-same : (ds es : List Decl) (d : Decl) (m : Mention) → AreAlike ds es (named_in m) → bad_kind_in ds d m ≡ bad_kind_in es d m
bad-kind-same ds es d (TypeIn place t) e = form-same ds es d place t e
bad-kind-same ds es d other e = refl

bad-use-same : (ds es : List Decl) (m : Mention) → AreAlike ds es (named_in m) → bad_use_in ds m ≡ bad_use_in es m
bad-use-same ds es (UseOf uses.Qualifier u) e =
    ap (λ o. some_if (misuses (option_map (λ d. d.members) (as_qualifier o)) u) (subjects.Use uses.Qualifier u)) e
bad-use-same ds es (UseOf uses.Binding u) e =
    ap (λ o. some_if (misuses (option_map (λ d. d.members) (as_binding o)) u) (subjects.Use uses.Binding u)) e
bad-use-same ds es other e = refl

-- ---- records

covered-same : (ds es : List Decl) (quals : List Qual) (want : Qual)
    → AllByRecursion (λ u. find_decl kinds.Qualifier u.name ds ≡ find_decl kinds.Qualifier u.name es) quals
    → some_covers ds quals want ≡ some_covers es quals want
covered-same ds es quals want alike = grind (arith, any-alike, all-weaker)

cover-same : (ds es : List Decl) (quals asked : List Qual)
    → AllByRecursion (λ u. find_decl kinds.Qualifier u.name ds ≡ find_decl kinds.Qualifier u.name es) quals
    → cover_all ds quals asked ≡ cover_all es quals asked
cover-same ds es quals [] alike = refl
cover-same ds es quals (want ∷ asked) alike = grind (arith, cover-same ds es quals asked alike, covered-same)

disposes-same : (ds es : List Decl) (s : DisposerDecl) (b : Effective) → HasQualifiersAlike ds es b → disposes ds b s ≡ disposes es b s
disposes-same ds es s b alike =
    ap (λ t. has b.types s.product_type && t) (cover-same ds es b.qualifiers (required s.qualifiers) alike)

without-same : (ds es : List Decl) (bs : List Effective) (disposers : List DisposerDecl) → AllByRecursion (HasQualifiersAlike ds es) bs
    → without_product ds bs disposers ≡ without_product es bs disposers
without-same ds es bs disposers alike =
    ap (map (λ s. subjects.Disposer s.name))
    (filter-same (λ s. not (list_any (λ p. disposes ds p s) bs)) (λ s. not (list_any (λ p. disposes es p s) bs)) disposers
    (λ s. ap not (any-alike (λ p. disposes ds p s) (λ p. disposes es p s) bs
    (all-weaker (HasQualifiersAlike ds es) (λ p. disposes ds p s ≡ disposes es p s) bs (disposes-same ds es s) alike))))

two-same : (ds es : List Decl) (bs : List Effective) (disposers : List DisposerDecl) → AllByRecursion (HasQualifiersAlike ds es) bs
    → with_two ds bs disposers ≡ with_two es bs disposers
two-same ds es bs disposers alike =
    ap (λ rs. map subjects.Producer (flat_map (λ b. option_to_list b.id.producer) rs))
    (filter-alike (λ b. nat_lt 1 (length (filter (disposes ds b) disposers))) (λ b. nat_lt 1 (length (filter (disposes es b) disposers))) bs
    (all-weaker (HasQualifiersAlike ds es)
    (λ b. nat_lt 1 (length (filter (disposes ds b) disposers)) ≡ nat_lt 1 (length (filter (disposes es b) disposers))) bs
    (λ b own. ap (λ xs. nat_lt 1 (length xs))
    (filter-same (disposes ds b) (disposes es b) disposers (λ s. disposes-same ds es s b own))) alike))

disposers-same : (ds es : List Decl) (d : Decl) → entries ds d ≡ entries es d → AreProductsAlike ds es d
    → disposers_at_fault ds d ≡ disposers_at_fault es d
disposers-same ds es (decls.Bean bean) same alike =
    let b = managed ds bean in
    let bs = map (product ds bean) bean.producers in
    sym (disposers_of_records ds bean b bs refl)
    ∙ ap (λ l. l ++ with_two ds bs bean.disposers) (without-same ds es bs bean.disposers alike)
    ∙ ap (λ l. without_product es bs bean.disposers ++ l) (two-same ds es bs bean.disposers alike)
    ∙ disposers_of_records es bean b bs same
disposers-same ds es other same alike = refl

conflicts-same : (ds es : List Decl) (bean : BeanDecl) → DifferAlike ds es (decls.Bean bean)
    → conflicts_in ds (class_bindings ds bean) bean ≡ conflicts_in es (class_bindings es bean) bean
conflicts-same ds es bean alike =
    let class = class_bindings ds bean in
    let other = class_bindings es bean in
    let at : (place : BeanPlace) → conflict_at ds class bean place ≡ conflict_at es other bean place =
    λ place. ap (λ b. cond b (part_at place ∷ []) []) (alike place) in
    let methods = flat-same (λ m. conflict_at ds class bean (spots.Method m.name))
    (λ m. conflict_at es other bean (spots.Method m.name)) bean.methods (λ m. at (spots.Method m.name)) in
    let producers = flat-same (λ p. conflict_at ds class bean (spots.Producer p.name))
    (λ p. conflict_at es other bean (spots.Producer p.name)) (filter (λ p. not p.is_static) bean.producers)
    (λ p. at (spots.Producer p.name)) in
    let observers = flat-same (λ o. conflict_at ds class bean (spots.Observer o.name))
    (λ o. conflict_at es other bean (spots.Observer o.name)) bean.observers (λ o. at (spots.Observer o.name)) in
    rw (at spots.Construct, methods, producers, observers) refl

-- ---- a specialized bean

is-seen : (ds : List Decl) (bean : BeanDecl) → is_some (specialized_seen ds (decls.Bean bean)) ≡ is_some (specialized ds bean)
is-seen ds bean = grind arith

none-same : (ds es : List Decl) (d : Decl) → specialized_seen ds d ≡ specialized_seen es d → lacks_specialized ds d ≡ lacks_specialized es d
none-same ds es (decls.Bean bean) seen =
    ap (λ there. bean.specializes && not there) (sym (is-seen ds bean) ∙ ap is_some seen ∙ is-seen es bean)
none-same ds es other seen = refl

-- what is seen of two beans is the same
abbrev AreSeenAlike : Option Effective → Option Effective → Type 0
AreSeenAlike o p = option_map types_and_name o ≡ option_map types_and_name p

beyond-same : (types : List (List ℕ)) (o p : Option Effective) → AreSeenAlike o p → types_beyond types o ≡ types_beyond types p
beyond-same types None None seen = refl
beyond-same types None (Some c) seen = cc
beyond-same types (Some b) None seen = cc
beyond-same types (Some b) (Some c) seen = grind arith

name-same : (o p : Option Effective) → AreSeenAlike o p → has_name o ≡ has_name p
name-same None None seen = refl
name-same None (Some c) seen = cc
name-same (Some b) None seen = cc
name-same (Some b) (Some c) seen = let same : types_and_name b ≡ types_and_name c = cc in ap (λ s. is_some s.1) same

types-same : (ds es : List Decl) (d : Decl) → entries ds d ≡ entries es d → specialized_seen ds d ≡ specialized_seen es d
    → lacked_types ds d ≡ lacked_types es d
types-same ds es (decls.Bean bean) same seen = grind (arith, beyond-same)
types-same ds es other same seen = refl

renames-same : (ds es : List Decl) (d : Decl) → specialized_seen ds d ≡ specialized_seen es d
    → renames_specialized ds d ≡ renames_specialized es d
renames-same ds es (decls.Bean bean) seen =
    ap (λ b. is_some bean.attributes.named && b) (name-same (specialized_bean ds bean) (specialized_bean es bean) seen)
renames-same ds es other seen = refl

-- ---- injection points

-- a test of points and of what is chosen for them that is the same wherever these are answered alike
abbrev IsTestAlike : List Decl → List Decl → (PointDecl → Choice → Bool) → (PointDecl → Choice → Bool) → Type 0
IsTestAlike ds es t u = (p : PointDecl) → find_decl kinds.Type p.required_type ds ≡ find_decl kinds.Type p.required_type es
    → IsAnsweredAlike ds es p → t p (answer_to ds p) ≡ u p (answer_to es p)

points-same : (ds es : List Decl) (t u : PointDecl → Choice → Bool) (bs : List Effective) (d : Decl) → IsTestAlike ds es t u
    → (ms : List Mention) → AllByRecursion (λ m. AreAlike ds es (named_in m)) ms
    → AllByRecursion (IsAnsweredAlike ds es) (flat_map point_named ms)
    → found_in (point_in t (answer_to ds) bs d) ms ≡ found_in (point_in u (answer_to es) bs d) ms
points-same ds es t u bs d alike [] names answers = refl
points-same ds es t u bs d alike (PointOf place p ∷ ms) names answers =
    grind (arith, points-same ds es t u bs d alike ms names.1 answers.1, p.name, names.0, answers.0, names.1, answers.1)
points-same ds es t u bs d alike (other ∷ ms) names answers = points-same ds es t u bs d alike ms names.1 answers

proxy-same : (ds es : List Decl) (p : PointDecl) (c : Choice)
    → find_decl kinds.Type p.required_type ds ≡ find_decl kinds.Type p.required_type es
    → ((id : BeanId) → c ≡ choices.One id → IsBeanAlike ds es id) → is_unproxyable ds p c ≡ is_unproxyable es p c
proxy-same ds es p choices.Unsatisfied e alike = refl
proxy-same ds es p (choices.Ambiguous ids) e alike = refl
proxy-same ds es p (choices.One id) e alike = grind (arith, p.required_type)

verdict-same : (ds es : List Decl) (v : Verdict) → IsTestAlike ds es (has_verdict ds v) (has_verdict es v)
verdict-same ds es verdicts.Unsatisfied p e answered = ap (has_verdict ds verdicts.Unsatisfied p) answered.answer
verdict-same ds es verdicts.Ambiguous p e answered = ap (has_verdict ds verdicts.Ambiguous p) answered.answer
verdict-same ds es verdicts.Unproxyable p e answered =
    proxy-same ds es p (answer_to ds p) e answered.bean ∙ ap (is_unproxyable es p) answered.answer

-- ---- call sites

lacks-same : (ds es : List Decl) (method : List ℕ) (c : Choice) → ((id : BeanId) → c ≡ choices.One id → IsBeanAlike ds es id)
    → lacks_method ds method c ≡ lacks_method es method c
lacks-same ds es method (choices.One id) alike = ap not ((alike id refl).methods method)
lacks-same ds es method other alike = refl

lost-same : (ds es : List Decl) (method name : List ℕ) (ps : List PointDecl) → AllByRecursion (IsAnsweredAlike ds es) ps
    → is_lost_among ds method (option_map (answer_to ds) (find (λ p. bytes_eq p.name name) ps))
    ≡ is_lost_among es method (option_map (answer_to es) (find (λ p. bytes_eq p.name name) ps))
lost-same ds es method name [] answers = refl
lost-same ds es method name (p ∷ ps) answers =
    grind (arith, lost-same ds es method name ps answers.1, p.name, answers.1, answers.0.bean, answers.0.answer, lacks-same)

seen-alike : (P : PointDecl → Type 0) (place : PartPlace) (own : List PointDecl) → AllByRecursion P own
    → AllByRecursion P (own_seen place own)
seen-alike P (places.StaticProducer n) own all = tt
seen-alike P other own all = all

calls-same : (ds es : List Decl) (bs : List Effective) (d : Decl) → AllByRecursion (IsAnsweredAlike ds es) (own_points d)
    → (ms : List Mention) → AllByRecursion (IsAnsweredAlike ds es) (flat_map params_given ms)
    → found_in (lost_in ds (answer_to ds) bs d) ms ≡ found_in (lost_in es (answer_to es) bs d) ms
calls-same ds es bs d own [] given = refl
calls-same ds es bs d own (CallOf place params call ∷ ms) given =
    let P = IsAnsweredAlike ds es in
    let (here, behind) = all-parts P params (flat_map params_given ms) given in
    let seen = all-append P params (own_seen place (own_points d)) here (seen-alike P place (own_points d) own) in
    let enabled = is_enabled_in d bs (producer_of_part place) in
    let subject = subjects.Call place call.point call.method in
    let others = found_in (lost_in ds (answer_to ds) bs d) ms in
    ap (λ b. option_to_list (some_if (enabled && b) subject) ++ others)
    (lost-same ds es call.method call.point (points_seen place params (own_points d)) seen)
    ∙ ap (λ l. option_to_list (lost_in es (answer_to es) bs d (CallOf place params call)) ++ l)
    (calls-same ds es bs d own ms behind)
calls-same ds es bs d own (other ∷ ms) given = calls-same ds es bs d own ms given

-- ---- the law

verdicts-same : (ds es : List Decl) (v : Verdict) (d : Decl) → IsSeenAlike ds es d
    → found_in (point_in (has_verdict ds v) (answer_to ds) (entries ds d) d) (mentions d)
    ≡ found_in (point_in (has_verdict es v) (answer_to es) (entries es d) d) (mentions d)
verdicts-same ds es v d alike =
    points-same ds es (has_verdict ds v) (has_verdict es v) (entries ds d) d (verdict-same ds es v) (mentions d)
    alike.names alike.answers
    ∙ ap (λ bs. found_in (point_in (has_verdict es v) (answer_to es) bs d) (mentions d)) alike.records

binding-same : (ds es : List Decl) (book : List Promised) (d : Decl) → DifferAlike ds es d
    → subjects_at_fault codes_of.BindingConflict ds book d ≡ subjects_at_fault codes_of.BindingConflict es book d
binding-same ds es book (decls.Bean bean) alike = conflicts-same ds es bean alike
binding-same ds es book other alike = refl

pub faults_rest_on : FaultsRestOn
faults_rest_on codes_of.UnknownName ds es book d alike = grind (arith, alike.names, found-same, all-weaker, unknown-same)
faults_rest_on codes_of.Cycle ds es book d alike = ap whole_if alike.circle
faults_rest_on codes_of.BadKind ds es book d alike = grind (arith, alike.names, found-same, all-weaker, bad-kind-same)
faults_rest_on codes_of.Typed ds es book d alike =
    sym (typed_by_entries ds d) ∙ ap (typed_by d) alike.records ∙ typed_by_entries es d
faults_rest_on codes_of.ScopeConflict ds es book d alike = ap scope_conflicts alike.records
faults_rest_on codes_of.BindingConflict ds es book d alike = binding-same ds es book d alike.bindings
faults_rest_on codes_of.Member ds es book d alike = grind (arith, alike.names, found-same, all-weaker, bad-use-same)
faults_rest_on codes_of.Disposer ds es book d alike = disposers-same ds es d alike.records alike.qualifiers
faults_rest_on codes_of.ConditionalDependent ds es book d alike =
    sym (conditional_by_entries ds d) ∙ ap (conditional_by d) alike.records ∙ conditional_by_entries es d
faults_rest_on codes_of.Unsatisfied ds es book d alike = verdicts-same ds es verdicts.Unsatisfied d alike
faults_rest_on codes_of.Ambiguous ds es book d alike = verdicts-same ds es verdicts.Ambiguous d alike
faults_rest_on codes_of.Unproxyable ds es book d alike = verdicts-same ds es verdicts.Unproxyable d alike
faults_rest_on codes_of.Site ds es book d alike =
    let P = IsAnsweredAlike ds es in
    calls-same ds es (entries ds d) d (each-own P d alike.answers) (mentions d) (each-given P d alike.answers)
    ∙ ap (λ bs. found_in (lost_in es (answer_to es) bs d) (mentions d)) alike.records
faults_rest_on codes_of.NoSpecialized ds es book d alike = ap whole_if (none-same ds es d alike.specialized)
faults_rest_on codes_of.SpecializedType ds es book d alike = types-same ds es d alike.records alike.specialized
faults_rest_on codes_of.SpecializedName ds es book d alike = ap whole_if (renames-same ds es d alike.specialized)
faults_rest_on other ds es book d alike = refl
