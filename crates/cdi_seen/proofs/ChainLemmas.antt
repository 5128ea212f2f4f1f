-- A chain that is not at stake sees the same.
use Rattle.cdi_seen.proofs.Common.{◌≡◌, ℕ, ℤ, Bool, true, false, List, [], ◌∷◌, ◌++◌, map, filter, flat_map, Option, Some, None, option_map}
use Rattle.cdi_seen.proofs.Common.{unwrap_or, refl, sym, ap, ◌∙◌, IsStrictWeakOrder, list_any, bytes_eq, and_right, or_from, or_left}
use Rattle.cdi_seen.proofs.Common.{or_right, map-append, filter-append, key_at, AreDistinct, edited_all, Avoid, name_of_use, BeanDecl, Decl}
use Rattle.cdi_seen.proofs.Common.{Edit, BeanPlace, Qual, edits_keep_decl, avoid-first, avoid-head, same_text, avoid-second, has, FilledUse}
use Rattle.cdi_seen.proofs.Common.{filled, filled_by, binding_reads, effective, class_bindings, in_place_of, find_bean, uses_one}
use Rattle.cdi_seen.proofs.Common.{record_reads, Effective, edits_keep_own_records, around_method, of_method, of_observer, of_producer}
use Rattle.cdi_seen.proofs.Common.{set_by, sorted_by, sorted_map, ChainKey, unranked, IsPresent, given_reads, own_bindings, own_reads}
use Rattle.cdi_seen.proofs.Common.{TellsAffected, use_reads, IsUnmet, names_under, SeenInterceptor, arith}
use Rattle.std.proofs.{lemmas.List.Sorted.ranks_by}
use Rattle.std.specs.{Cmp.int_cmp_total, Cmp.Lexicographic.options_total, Option.option_to_list}
use Rattle.base_lists.proofs.Any.{any-map}
use Rattle.cdi_model.specs.{declared.decl.InterceptorDecl.InterceptorDecl}
use Rattle.cdi_model.specs.declared.decl.Decl.TheVariants as decls
use Rattle.cdi_model.specs.declared.decl.Kind.TheVariants as kinds
use Rattle.cdi_model.specs.declared.decl.UseKind.TheVariants as uses
use Rattle.cdi_model.specs.declared.place.BeanPlace.TheVariants as places
use Rattle.cdi_match.specs.Filling.{as_binding, find_binding}
use Rattle.cdi_match.proofs.LocalityLemmas.{edits_keep_bindings}
use Rattle.cdi_intercept.specs.Chains.{as_interceptor, in_order, interceptors, is_before, is_enabled}
use Rattle.cdi_intercept.specs.Sees.{is_seen, seen_interceptor, sees_at, sees_by}
use Rattle.cdi_intercept.specs.Bindings.{in_text_order, set_at, set_of}
use Rattle.cdi_intercept.proofs.UseLemmas.{any-in_text_order}
use Rattle.cdi_seen.proofs.{GatherLemmas.avoid_given, GatherLemmas.gather, GatherLemmas.Leaves, SetLemmas.avoid_set_types}
use Rattle.cdi_seen.proofs.{SortLemmas.each_given, SortLemmas.filtered_in_order, UseLemmas.read_same, UseLemmas.uses_by_name}
use Rattle.cdi_seen.specs.Gives.{InterceptorsByDeclaration, interceptor_at, interceptor_given, is_before_interceptor, ranked_interceptor}
use Rattle.cdi_seen.specs.{Rests.place_reads, Words.Intercepts, Words.types_bound_by}

-- ---- interceptors by declaration

pub order : IsStrictWeakOrder is_before
order = ranks_by (options_total int_cmp_total) (λ (i : InterceptorDecl). i.priority)

second-ranked : (ds : List Decl) (is : List InterceptorDecl) → unranked (map (ranked_interceptor ds) is) ≡ map (seen_interceptor ds) is
second-ranked ds [] = refl
second-ranked ds (i ∷ is) = ap (λ rest. seen_interceptor ds i ∷ rest) (second-ranked ds is)

-- what some interceptors give
abbrev given : List Decl → List Qual → BeanPlace → List InterceptorDecl → List (Option ℤ × SeenInterceptor)
given ds set place is = map (ranked_interceptor ds) (filter (is_seen set place) (filter is_enabled is))

given-append : (ds : List Decl) (set : List Qual) (place : BeanPlace) (xs ys : List InterceptorDecl)
    → given ds set place (xs ++ ys) ≡ given ds set place xs ++ given ds set place ys
given-append ds set place xs ys = grind (arith, filter-append, map-append)

pub interceptors_by_declaration : InterceptorsByDeclaration
unfolding in_order
interceptors_by_declaration ds set place =
    let all : List InterceptorDecl = filter is_enabled (interceptors ds) in
    let seen : List InterceptorDecl = filter (is_seen set place) all in
    ap (map (seen_interceptor ds)) (filtered_in_order is_before order (is_seen set place) all)
    ∙ sym (second-ranked ds (sorted_by is_before seen))
    ∙ ap unranked (sorted_map (ranked_interceptor ds) is_before_interceptor seen
    ∙ ap (sorted_by is_before_interceptor)
    (each_given (given ds set place) refl (given-append ds set place) (λ d. option_to_list (as_interceptor d)) ds))

-- ---- what is not affected gives the same

abbrev read_filled : Option Decl → Qual → FilledUse
read_filled o u = filled_by (unwrap_or (option_map (λ d. d.members) (as_binding o)) []) u

keep-interceptor : (edits : List Edit) (ds : List Decl) (i : InterceptorDecl) → Avoid (use_reads uses.Binding i.bindings) edits
    → seen_interceptor (edited_all ds edits) i ≡ seen_interceptor ds i
keep-interceptor edits ds i avoid =
    let same : map (filled (edited_all ds edits) uses.Binding) i.bindings ≡ map (filled ds uses.Binding) i.bindings =
    read_same edits ds kinds.Binding read_filled i.bindings avoid in
    λ j. record { name = i.name; bindings = same j }

pub keep_interceptors : (edits : List Edit) (ds : List Decl) (set : List Qual) (place : BeanPlace) (d : Decl)
    → Avoid (given_reads ds d) edits → interceptor_given set place (edited_all ds edits) d ≡ interceptor_given set place ds d
keep_interceptors edits ds set place (decls.Interceptor i) avoid = grind (arith, i.priority, keep-interceptor)
keep_interceptors edits ds set place other avoid = refl

-- ---- what shares no type with the bindings at a place gives it nothing

no-share : (set us : List Qual) → ((x : List ℕ) → has (map name_of_use us) x ≡ true → uses_one set x ≡ false)
    → list_any (λ u. uses_one set u.name) us ≡ false
no-share set [] h = refl
no-share set (u ∷ us) h =
    or_from (uses_one set u.name) (list_any (λ v. uses_one set v.name) us)
    (h u.name (or_left (bytes_eq u.name u.name) (has (map name_of_use us) u.name) (same_text u.name u.name refl)))
    (no-share set us (λ x there. h x (or_right (bytes_eq u.name x) (has (map name_of_use us) x) there)))

pub no_interceptor : (set : List Qual) (place : BeanPlace) (d : Decl)
    → ((x : List ℕ) → has (types_bound_by d) x ≡ true → uses_one set x ≡ false) → interceptor_at set place d ≡ []
no_interceptor set place (decls.Interceptor i) none = grind (arith, i.bindings, and_right, no-share)
no_interceptor set place other none = refl

pub chain_by_words : (set : List Qual) (place : BeanPlace) (ds : List Decl) (d : Decl)
    → ((x : List ℕ) → has (names_under ds d Intercepts) x ≡ true → uses_one set x ≡ false) → interceptor_given set place ds d ≡ []
unfolding names_under
chain_by_words set place ds d none = ap (map (ranked_interceptor ds)) (no_interceptor set place d none)

-- ---- the own part

keep-class : (edits : List Edit) (ds : List Decl) (b : BeanDecl) → Avoid (record_reads ds b) edits
    → class_bindings (edited_all ds edits) b ≡ class_bindings ds b
unfolding effective
keep-class edits ds b avoid = ap bindings_of (edits_keep_own_records edits ds b avoid).records
  where
    bindings_of : List Effective → List Qual
    bindings_of [] = []
    bindings_of (r ∷ rs) = r.bindings

keep-around : (edits : List Edit) (ds : List Decl) (class : List Qual) (own : Option (List Qual))
    → Avoid (binding_reads ds (unwrap_or own [])) edits → around_method (edited_all ds edits) class own ≡ around_method ds class own
keep-around edits ds class None avoid = refl
keep-around edits ds class (Some own) avoid = ap (in_place_of class) (edits_keep_bindings edits ds own avoid)

keep-set : (edits : List Edit) (ds : List Decl) (class : List Qual) (b : BeanDecl) (place : BeanPlace)
    → Avoid (binding_reads ds (own_bindings b place)) edits → set_by (edited_all ds edits) class b place ≡ set_by ds class b place
keep-set edits ds class b (places.Method name) avoid = keep-around edits ds class (of_method b name) avoid
keep-set edits ds class b (places.Producer name) avoid = keep-around edits ds class (of_producer b name) avoid
keep-set edits ds class b (places.Observer name) avoid = keep-around edits ds class (of_observer b name) avoid
keep-set edits ds class b other avoid = refl

pub keep_place : (edits : List Edit) (ds : List Decl) (place : BeanPlace) (found : Option BeanDecl)
    → Avoid (place_reads ds place found) edits → set_of (edited_all ds edits) found place ≡ set_of ds found place
keep_place edits ds place None avoid = refl
keep_place edits ds place (Some b) avoid =
    let apart = record_reads ds b in
    let own = binding_reads ds (own_bindings b place) in
    ap (λ class. set_by (edited_all ds edits) class b place) (keep-class edits ds b (avoid-first edits apart own avoid))
    ∙ keep-set edits ds (class_bindings ds b) b place (avoid-second edits apart own avoid)

pub keep_set_at : (edits : List Edit) (ds : List Decl) (class : List ℕ) (place : BeanPlace)
    → Avoid (own_reads ds (ChainKey class place)) edits → set_at (edited_all ds edits) class place ≡ set_at ds class place
keep_set_at edits ds class place avoid = grind (arith, edits_keep_decl, avoid-head, keep_place, avoid-second)

avoid-types : (edits : List Edit) (ds : List Decl) (place : BeanPlace) (found : Option BeanDecl)
    → Avoid (place_reads ds place found) edits → Avoid (use_reads uses.Binding (set_of ds found place)) edits
avoid-types edits ds place None avoid = avoid
avoid-types edits ds place (Some b) avoid =
    let apart = record_reads ds b in
    let own = binding_reads ds (own_bindings b place) in
    avoid_set_types edits ds b place (avoid-first edits apart own avoid) (avoid-second edits apart own avoid)

-- the types of bindings in order are those of the bindings
avoid-ordered : (edits : List Edit) (us : List Qual) → Avoid (use_reads uses.Binding us) edits
    → Avoid (use_reads uses.Binding (in_text_order us)) edits
avoid-ordered edits us avoid key edited = grind (arith, any-map, any-in_text_order)

-- ---- the key

-- Where all declarations give the same, and the edits leave the own part, the same is seen.
pub chain_same_from : (edits : List Edit) (ds : List Decl) (class : List ℕ) (place : BeanPlace)
    → Avoid (own_reads ds (ChainKey class place)) edits
    → flat_map (interceptor_given (in_text_order (set_at ds class place)) place (edited_all ds edits)) (edited_all ds edits)
    ≡ flat_map (interceptor_given (in_text_order (set_at ds class place)) place ds) ds
    → sees_at (edited_all ds edits) class place ≡ sees_at ds class place
chain_same_from edits ds class place own same =
    let es : List Decl = edited_all ds edits in
    let set : List Qual = set_at ds class place in
    let list : List Qual = in_text_order set in
    let place_part = avoid-second edits (key_at kinds.Bean class ∷ []) (place_reads ds place (find_bean class ds)) own in
    let types : map (λ u. find_binding u.name es) list ≡ map (λ u. find_binding u.name ds) list =
    read_same edits ds kinds.Binding (λ (o : Option Decl) (u : Qual). as_binding o) list
    (avoid-ordered edits set (avoid-types edits ds place (find_bean class ds) place_part)) in
    let seen : map (seen_interceptor es) (filter (is_seen list place) (in_order es))
    ≡ map (seen_interceptor ds) (filter (is_seen list place) (in_order ds)) =
    interceptors_by_declaration es list place
    ∙ ap (λ given. unranked (sorted_by is_before_interceptor given)) same
    ∙ sym (interceptors_by_declaration ds list place) in
    let more : sees_by es list place ≡ sees_by ds list place =
    λ j. record { bindings = list; declared = types j; interceptors = seen j } in
    ap (λ us. sees_by es (in_text_order us) place) (keep_set_at edits ds class place own) ∙ more

module _ (edits : List Edit) (ds : List Decl) (is_affected : Decl → Bool) (distinct : AreDistinct ds)
    (distinct' : AreDistinct (edited_all ds edits)) (tells : TellsAffected ds edits is_affected) (class : List ℕ) (place : BeanPlace)
    (own : Avoid (own_reads ds (ChainKey class place)) edits) (before : IsUnmet ds ds is_affected (ChainKey class place))
    (after : IsUnmet ds (edited_all ds edits) is_affected (ChainKey class place)) where
  abbrev es : List Decl
  es = edited_all ds edits

  abbrev set : List Qual
  set = set_at ds class place

  abbrev list : List Qual
  list = in_text_order set

  unshared : (lists : List Decl) → IsUnmet ds lists is_affected (ChainKey class place) → (d : Decl) → IsPresent lists d
      → is_affected d ≡ true → (x : List ℕ) → has (names_under lists d Intercepts) x ≡ true → uses_one list x ≡ false
  unshared lists unmet d here e x under =
      any-in_text_order (λ v. bytes_eq x v.name) set ∙ uses_by_name set x ∙ unmet d here e x under

  leaves : Leaves (interceptor_given list place) ds es is_affected
  leaves = record {
    before = λ d here e. chain_by_words list place ds d (unshared ds before d here e);
    after = λ d here e. chain_by_words list place es d (unshared es after d here e);
    local = λ d here e. keep_interceptors edits ds list place d (avoid_given edits ds d (tells.apart d here e));
  }

  pub chain_sees_same : sees_at es class place ≡ sees_at ds class place
  chain_sees_same = chain_same_from edits ds class place own
      (gather edits ds is_affected tells (interceptor_given list place) distinct distinct' leaves)
