-- The interceptors that a chain sees are found by the words of its bindings.
use Rattle.cdi_live.proofs.Common.{◌≡◌, Bool, true, false, cond, ◌&&◌, List, [], ◌∷◌, filter, is_some, refl, sym, ap, ◌∙◌}
use Rattle.cdi_live.proofs.Common.{list_any, false≢true, Decl, InterceptorDecl, BeanPlace, Qual, bytes_eq-turned, uses_one, in_order}
use Rattle.cdi_live.proofs.Common.{part_for, is_seen, shares_type, ℕ, ◌||◌, flat_map}
use Rattle.cdi_live.proofs.Common.{◌++◌, option_to_list, Word, same_word, word_at, words_have}
use Rattle.cdi_live.proofs.Common.{or_from, words_named, or_left, or_parts, is_enabled, has_one}
use Rattle.cdi_live.proofs.Common.{filter-append}
use Rattle.cdi_live.proofs.Common.{sorted_by, same_word_equiv, words_bound, words-append}
use Rattle.std.proofs.Math.Bool.{and-false}
use Rattle.base_lists.proofs.Any.{any-or}
use Rattle.cdi_model.specs.declared.decl.Decl.TheVariants as decls
use Rattle.cdi_postings.specs.declared.word.Reason.TheVariants as reasons
use Rattle.cdi_index.specs.Made.{words_of_interceptor}
use Rattle.cdi_intercept.specs.Chains.{as_interceptor, interceptors, is_before}
use Rattle.cdi_seen.proofs.{ChainLemmas.order, SortLemmas.filtered_in_order}
use Rattle.cdi_live.specs.ChainGone.{enabled_in}

-- ---- in order

enabled-is : (ds : List Decl) → flat_map enabled_in ds ≡ filter is_enabled (interceptors ds)
enabled-is [] = refl
enabled-is (d ∷ ds) = ap (λ more. enabled_in d ++ more) (enabled-is ds)
    ∙ sym (filter-append is_enabled (option_to_list (as_interceptor d)) (interceptors ds))

-- ---- by words

-- the words have those of the types of some bindings
abbrev Cover : List Word → List Qual → Type 0
Cover words us = (x : List ℕ) → uses_one us x ≡ true → words_have words (word_at reasons.Intercepts x) ≡ true

bound-has : (us : List Qual) (x : List ℕ) → words_have (words_bound us) (word_at reasons.Intercepts x) ≡ uses_one us x
bound-has [] x = refl
bound-has (u ∷ us) x = λ i. bytes_eq-turned u.name x i || bound-has us x i

cover-one : (us : List Qual) → Cover (words_bound us) us
cover-one us x h = bound-has us x ∙ h

turned : (v w : Word) → same_word v w ≡ same_word w v
turned v w = same_word_equiv.symm v w

any-turned : (words : List Word) (w : Word) → list_any (same_word w) words ≡ words_have words w
any-turned [] w = refl
any-turned (v ∷ words) w = λ i. turned w v i || any-turned words w i

no-share : (bindings us : List Qual) (words : List Word) → Cover words bindings → list_any (words_have (words_bound us)) words ≡ false
    → list_any (λ u. uses_one bindings u.name) us ≡ false
no-share bindings [] words cover none = refl
no-share bindings (u ∷ us) words cover none =
    let w : Word = word_at reasons.Intercepts u.name in
    let parts = or_parts (list_any (same_word w) words) (list_any (words_have (words_bound us)) words)
    (sym (any-or (same_word w) (words_have (words_bound us)) words) ∙ none) in
    ap (λ b. b || list_any (λ v. uses_one bindings v.name) us) (by (uses_one bindings u.name) refl (sym (any-turned words w) ∙ parts.0))
    ∙ no-share bindings us words cover parts.1
  where
    by : (b : Bool) → uses_one bindings u.name ≡ b → words_have words (word_at reasons.Intercepts u.name) ≡ false → b ≡ false
    by false e f = refl
    by true e f = absurd (false≢true (sym f ∙ cover u.name e))

-- an interceptor has the words of its bindings
bound-named : (i : InterceptorDecl) (w : Word) → words_have (words_bound i.bindings) w ≡ true
    → words_have (words_of_interceptor (decls.Interceptor i)) w ≡ true
bound-named i w h = words-append w (words_bound i.bindings) (words_named (decls.Interceptor i))
    ∙ or_left (words_have (words_bound i.bindings) w) (words_have (words_named (decls.Interceptor i)) w) h

-- an interceptor of which no binding has one of the words shares no type with those
without-bound : (words : List Word) (bindings : List Qual) (place : BeanPlace) (i : InterceptorDecl) → Cover words bindings
    → list_any (words_have (words_bound i.bindings)) words ≡ false → filter (is_seen bindings place) (enabled_in (decls.Interceptor i)) ≡ []
without-bound words bindings place i cover none = by (is_enabled i) (no-share bindings i.bindings words cover none)
  where
    by : (b : Bool) → shares_type bindings i ≡ false → filter (is_seen bindings place) (cond b (i ∷ []) []) ≡ []
    by true share = ap (λ (c : Bool). cond {A = List InterceptorDecl} c (i ∷ []) [])
        (ap (λ c. is_some (part_for place i) && c) share ∙ and-false (is_some (part_for place i)))
    by false share = refl

fewer : (p q : Word → Bool) (ws : List Word) → ((w : Word) → p w ≡ true → q w ≡ true) → list_any q ws ≡ false → list_any p ws ≡ false
fewer p q [] more none = refl
fewer p q (w ∷ ws) more none =
    let both = or_parts (q w) (list_any q ws) none in
    or_from (p w) (list_any p ws) (by (p w) refl both.0) (fewer p q ws more both.1)
  where
    by : (b : Bool) → p w ≡ b → q w ≡ false → b ≡ false
    by false e f = refl
    by true e f = absurd (false≢true (sym f ∙ more w e))

-- what has none of the words of some bindings shares no type with them
without-words : (ds : List Decl) (words : List Word) (bindings : List Qual) (place : BeanPlace) (d : Decl) → Cover words bindings
    → has_one ds words d ≡ false → filter (is_seen bindings place) (enabled_in d) ≡ []
without-words ds words bindings place (decls.Interceptor i) cover none =
    without-bound words bindings place i cover
    (fewer (words_have (words_bound i.bindings)) (words_have (words_of_interceptor (decls.Interceptor i))) words (bound-named i) none)
without-words ds words bindings place (decls.Bean d) cover none = refl
without-words ds words bindings place other cover none = refl

-- ---- all that are seen

-- what gives nothing that passes may be left out
gather : {X Y : Type 0} (f : X → List Y) (p : X → Bool) (q : Y → Bool) (xs : List X) → ((x : X) → p x ≡ false → filter q (f x) ≡ [])
    → filter q (flat_map f (filter p xs)) ≡ filter q (flat_map f xs)
gather f p q [] none = refl
gather {X} {Y} f p q (x ∷ xs) none = by (p x) refl (gather f p q xs none)
  where
    by : (b : Bool) → p x ≡ b → filter q (flat_map f (filter p xs)) ≡ filter q (flat_map f xs)
        → filter q (flat_map f (cond b (x ∷ filter p xs) (filter p xs))) ≡ filter q (f x ++ flat_map f xs)
    by true e rest = filter-append q (f x) (flat_map f (filter p xs)) ∙ ap (λ ys. filter q (f x) ++ ys) rest
        ∙ sym (filter-append q (f x) (flat_map f xs))
    by false e rest = rest ∙ ap (λ ys. ys ++ filter q (flat_map f xs)) (sym (none x e)) ∙ sym (filter-append q (f x) (flat_map f xs))

-- the declarations that have the words of some bindings give all interceptors that these see
seen-gathered : (us : List Qual) (place : BeanPlace) (ds : List Decl)
    → filter (is_seen us place) (sorted_by is_before (flat_map enabled_in (filter (has_one ds (words_bound us)) ds)))
    ≡ filter (is_seen us place) (in_order ds)
unfolding in_order
seen-gathered us place ds =
    let seen : InterceptorDecl → Bool = is_seen us place in
    let found : List Decl = filter (has_one ds (words_bound us)) ds in
    filtered_in_order is_before order seen (flat_map enabled_in found)
    ∙ ap (sorted_by is_before)
    (gather enabled_in (has_one ds (words_bound us)) seen ds (λ d. without-words ds (words_bound us) us place d (cover-one us))
    ∙ ap (filter seen) (enabled-is ds))
    ∙ sym (filtered_in_order is_before order seen (filter is_enabled (interceptors ds)))

pub seen-found : (us : List Qual) (place : BeanPlace) (ds found : List Decl) (words : List Word) → words ≡ words_bound us
    → found ≡ filter (has_one ds words) ds
    → filter (is_seen us place) (sorted_by is_before (flat_map enabled_in found)) ≡ filter (is_seen us place) (in_order ds)
seen-found us place ds found words are is =
    ap (λ fs. filter (is_seen us place) (sorted_by is_before (flat_map enabled_in fs))) (is ∙ ap (λ ws. filter (has_one ds ws) ds) are)
    ∙ seen-gathered us place ds
