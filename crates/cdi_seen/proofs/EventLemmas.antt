-- An event that is not at stake sees the same.
use Rattle.cdi_seen.proofs.Common.{◌≡◌, ℕ, ℤ, Bool, true, false, cond, List, [], ◌∷◌, ◌++◌, map, filter, flat_map, Option, Some, None}
use Rattle.cdi_seen.proofs.Common.{option_map, unwrap_or, refl, sym, ap, ◌∙◌, bytes_eq, or_left, or_right, map-append, filter-append}
use Rattle.cdi_seen.proofs.Common.{AreDistinct, edited_all, Avoid, BeanDecl, Decl, Edit, Qual, avoid-first, avoid-second, has, FilledUse}
use Rattle.cdi_seen.proofs.Common.{filled, filled_by, effective, as_bean, find_bean, Effective, sorted_by, sorted_map, unranked, same_text}
use Rattle.cdi_seen.proofs.Common.{IsPresent, own_reads, TellsAffected, use_reads, IsUnmet, names_under, as_qualifier, find_qualifier}
use Rattle.cdi_seen.proofs.Common.{beans, records, entries, method_reads, EventKey, observing, SeenObserver, arith}
use Rattle.std.proofs.lemmas.{Grind.flat_map-append, List.append-nil}
use Rattle.cdi_model.specs.declared.decl.{ObserverDecl.ObserverDecl, ProducerDecl.ProducerDecl}
use Rattle.cdi_model.specs.declared.decl.Decl.TheVariants as decls
use Rattle.cdi_model.specs.declared.decl.Kind.TheVariants as kinds
use Rattle.cdi_model.specs.declared.decl.UseKind.TheVariants as uses
use Rattle.cdi_match.specs.{Locality.type_reads, Types.types_of}
use Rattle.cdi_match.proofs.LocalityLemmas.{edits_keep_closure}
use Rattle.cdi_effective.specs.Beans.{managed, product}
use Rattle.cdi_observe.specs.Observers.{Observer, declared_by, is_before, observers, observes, observer_id, priority_of}
use Rattle.cdi_observe.specs.Sees.{event_sees, seen_observer}
use Rattle.cdi_seen.proofs.GatherLemmas.{avoid_given, avoid_methods, gather, keep_records, Leaves, still_present}
use Rattle.cdi_seen.proofs.{SortLemmas.each_given, UseLemmas.read_same}
use Rattle.cdi_seen.specs.Gives.{ObserversByDeclaration, is_before_observer, observer_given, ranked_observer}
use Rattle.cdi_seen.specs.Words.{Observes}

-- ---- observer methods by declaration

second-ranked : (ds : List Decl) (os : List Observer) → unranked (map (ranked_observer ds) os) ≡ map (seen_observer ds) os
second-ranked ds [] = refl
second-ranked ds (o ∷ os) = ap (λ rest. seen_observer ds o ∷ rest) (second-ranked ds os)

-- what some beans give
abbrev given : List (List ℕ) → List Decl → List Effective → List (ℤ × SeenObserver)
given types ds bs = map (ranked_observer ds) (filter (observes types) (observers ds bs))

given-append : (types : List (List ℕ)) (ds : List Decl) (xs ys : List Effective)
    → given types ds (xs ++ ys) ≡ given types ds xs ++ given types ds ys
given-append types ds xs ys = grind (arith, flat_map-append, filter-append, map-append)

pub observers_by_declaration : ObserversByDeclaration
unfolding observing beans
observers_by_declaration ds t =
    let types : List (List ℕ) = types_of ds t in
    let seen : List Observer = filter (observes types) (observers ds (beans ds)) in
    sym (second-ranked ds (sorted_by is_before seen))
    ∙ ap unranked (sorted_map (ranked_observer ds) is_before_observer seen
    ∙ ap (sorted_by is_before_observer) (each_given (given types ds) refl (given-append types ds) (entries ds) ds))

-- ---- the observer methods of the beans of a declaration

no-products : (ds es : List Decl) (b : BeanDecl) (producers : List ProducerDecl) → observers es (map (product ds b) producers) ≡ []
unfolding effective
no-products ds es b [] = refl
no-products ds es b (p ∷ ps) = no-products ds es b ps

-- those of its managed bean, where it is enabled
pub observers_of : (ds es : List Decl) (b : BeanDecl)
    → observers es (records ds b) ≡ declared_by (cond (managed ds b).is_enabled (find_bean b.name es) None)
unfolding effective
observers_of ds es b =
    let own : List Observer = declared_by (cond (managed ds b).is_enabled (find_bean b.name es) None) in
    ap (λ (more : List Observer). own ++ more) (no-products ds es b b.producers) ∙ append-nil own

abbrev method_of : BeanDecl → ObserverDecl → Observer
method_of b m = record { bean = b; method = m }

abbrev read_filled : Option Decl → Qual → FilledUse
read_filled o u = filled_by (unwrap_or (option_map (λ d. d.members) (as_qualifier o)) []) u

keep-method : (edits : List Edit) (ds : List Decl) (b : BeanDecl) (m : ObserverDecl) → Avoid (use_reads uses.Qualifier m.qualifiers) edits
    → ranked_observer (edited_all ds edits) (method_of b m) ≡ ranked_observer ds (method_of b m)
keep-method edits ds b m avoid =
    let same : map (filled (edited_all ds edits) uses.Qualifier) m.qualifiers ≡ map (filled ds uses.Qualifier) m.qualifiers =
    read_same edits ds kinds.Qualifier read_filled m.qualifiers avoid in
    let seen : seen_observer (edited_all ds edits) (method_of b m) ≡ seen_observer ds (method_of b m) =
    λ j. record { id = observer_id (method_of b m); qualifiers = same j } in
    λ j. (priority_of m, seen j)

keep-methods : (edits : List Edit) (ds : List Decl) (types : List (List ℕ)) (b : BeanDecl) (methods : List ObserverDecl)
    → Avoid (method_reads methods) edits
    → map (ranked_observer (edited_all ds edits)) (filter (observes types) (map (method_of b) methods))
    ≡ map (ranked_observer ds) (filter (observes types) (map (method_of b) methods))
keep-methods edits ds types b [] avoid = refl
keep-methods edits ds types b (m ∷ ms) avoid =
    by (has types m.event_type)
    (keep-method edits ds b m (avoid-first edits (use_reads uses.Qualifier m.qualifiers) (method_reads ms) avoid))
    (keep-methods edits ds types b ms (avoid-second edits (use_reads uses.Qualifier m.qualifiers) (method_reads ms) avoid))
  where
    es : List Decl
    es = edited_all ds edits

    own : Observer
    own = method_of b m

    left : List Observer
    left = filter (observes types) (map (method_of b) ms)

    by : (t : Bool) → ranked_observer es own ≡ ranked_observer ds own → map (ranked_observer es) left ≡ map (ranked_observer ds) left
        → map (ranked_observer es) (cond t (own ∷ left) left) ≡ map (ranked_observer ds) (cond t (own ∷ left) left)
    by true same rest = ap (λ first. first ∷ map (ranked_observer es) left) same ∙ ap (λ more. ranked_observer ds own ∷ more) rest
    by false same rest = rest

keep-found : (edits : List Edit) (ds : List Decl) (types : List (List ℕ)) (b : BeanDecl) (enabled : Bool)
    → Avoid (method_reads b.observers) edits
    → map (ranked_observer (edited_all ds edits)) (filter (observes types) (declared_by (cond enabled (Some b) None)))
    ≡ map (ranked_observer ds) (filter (observes types) (declared_by (cond enabled (Some b) None)))
keep-found edits ds types b enabled avoid = grind (arith, b.observers, keep-methods)

pub keep_observers : (edits : List Edit) (ds : List Decl) (is_affected : Decl → Bool) (tells : TellsAffected ds edits is_affected)
    (types : List (List ℕ)) (d : Decl) → IsPresent ds d → is_affected d ≡ false
    → observer_given types (edited_all ds edits) d ≡ observer_given types ds d
keep_observers edits ds is_affected tells types (decls.Bean b) here apart =
    let es : List Decl = edited_all ds edits in
    let there : IsPresent es (decls.Bean b) = still_present edits ds is_affected tells (decls.Bean b) here apart in
    let found : find_bean b.name ds ≡ Some b = ap as_bean here in
    let found' : find_bean b.name es ≡ Some b = ap as_bean there in
    let enabled : Bool = (managed ds b).is_enabled in
    let own : List Observer = declared_by (cond enabled (Some b) None) in
    let before : observers ds (records ds b) ≡ own =
    observers_of ds ds b ∙ ap (λ (f : Option BeanDecl). declared_by (cond enabled f None)) found in
    let after : observers es (records es b) ≡ own =
    ap (observers es) (keep_records edits ds is_affected tells b here apart) ∙ observers_of ds es b
    ∙ ap (λ (f : Option BeanDecl). declared_by (cond enabled f None)) found' in
    ap (λ (os : List Observer). map (ranked_observer es) (filter (observes types) os)) after
    ∙ keep-found edits ds types b enabled
    (avoid_methods edits ds b (avoid_given edits ds (decls.Bean b) (tells.apart (decls.Bean b) here apart)))
    ∙ ap (λ (os : List Observer). map (ranked_observer ds) (filter (observes types) os)) (sym before)
keep_observers edits ds is_affected tells types other here apart = refl

-- ---- what observes none of the types gives nothing

none-observed : (types : List (List ℕ)) (b : BeanDecl) (methods : List ObserverDecl)
    → ((x : List ℕ) → has (map (λ o. o.event_type) methods) x ≡ true → has types x ≡ false)
    → filter (observes types) (map (method_of b) methods) ≡ []
none-observed types b [] h = refl
none-observed types b (m ∷ ms) h =
    let t = m.event_type in
    let more : List (List ℕ) = map (λ o. o.event_type) ms in
    let left : List Observer = filter (observes types) (map (method_of b) ms) in
    ap (λ (o : Bool). cond o (method_of b m ∷ left) left) (h t (or_left (bytes_eq t t) (has more t) (same_text t t refl)))
    ∙ none-observed types b ms (λ x there. h x (or_right (bytes_eq t x) (has more x) there))

none-declared : (types : List (List ℕ)) (b : BeanDecl) (enabled : Bool)
    → ((x : List ℕ) → has (map (λ o. o.event_type) b.observers) x ≡ true → has types x ≡ false)
    → filter (observes types) (declared_by (cond enabled (Some b) None)) ≡ []
none-declared types b enabled none = grind (arith, b.observers, none-observed)

pub event_by_words : (types : List (List ℕ)) (ds : List Decl) (d : Decl) → IsPresent ds d
    → ((x : List ℕ) → has (names_under ds d Observes) x ≡ true → has types x ≡ false) → observer_given types ds d ≡ []
unfolding names_under
event_by_words types ds (decls.Bean b) here none = grind (arith, b.name, observers_of, none-declared)
event_by_words types ds other here none = refl

-- ---- the key

-- Where all declarations give the same, and the edits leave the own part, the same is seen.
pub event_same_from : (edits : List Edit) (ds : List Decl) (t : List ℕ) (us : List Qual) → Avoid (own_reads ds (EventKey t us)) edits
    → flat_map (observer_given (types_of ds t) (edited_all ds edits)) (edited_all ds edits)
    ≡ flat_map (observer_given (types_of ds t) ds) ds
    → event_sees (edited_all ds edits) (beans (edited_all ds edits)) t us ≡ event_sees ds (beans ds) t us
event_same_from edits ds t us own same =
    let es : List Decl = edited_all ds edits in
    let types : types_of es t ≡ types_of ds t =
    edits_keep_closure edits ds t (avoid-first edits (type_reads ds t) (use_reads uses.Qualifier us) own) in
    let quals : map (λ u. find_qualifier u.name es) us ≡ map (λ u. find_qualifier u.name ds) us =
    read_same edits ds kinds.Qualifier (λ (o : Option Decl) (u : Qual). as_qualifier o) us
    (avoid-second edits (type_reads ds t) (use_reads uses.Qualifier us) own) in
    let seen : map (seen_observer es) (observing es (beans es) t) ≡ map (seen_observer ds) (observing ds (beans ds) t) =
    observers_by_declaration es t
    ∙ ap (λ names. unranked (sorted_by is_before_observer (flat_map (observer_given names es) es))) types
    ∙ ap (λ given. unranked (sorted_by is_before_observer given)) same
    ∙ sym (observers_by_declaration ds t) in
    λ j. record { observers = seen j; declared = quals j }

module _ (edits : List Edit) (ds : List Decl) (is_affected : Decl → Bool) (distinct : AreDistinct ds)
    (distinct' : AreDistinct (edited_all ds edits)) (tells : TellsAffected ds edits is_affected) (t : List ℕ) (us : List Qual)
    (own : Avoid (own_reads ds (EventKey t us)) edits) (before : IsUnmet ds ds is_affected (EventKey t us))
    (after : IsUnmet ds (edited_all ds edits) is_affected (EventKey t us)) where
  abbrev es : List Decl
  es = edited_all ds edits

  abbrev types : List (List ℕ)
  types = types_of ds t

  leaves : Leaves (observer_given types) ds es is_affected
  leaves = grind (arith, event_by_words, keep_observers)

  pub event_sees_same : event_sees es (beans es) t us ≡ event_sees ds (beans ds) t us
  event_sees_same = event_same_from edits ds t us own
      (gather edits ds is_affected tells (observer_given types) distinct distinct' leaves)
