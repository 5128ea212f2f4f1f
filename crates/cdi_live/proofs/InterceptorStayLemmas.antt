-- Where no interceptor is moved, each place sees the same interceptors.
use Rattle.cdi_live.proofs.Common.{◌≡◌, Bool, true, false, List, [], ◌∷◌, map, filter, refl, sym, ap, ◌∙◌, false≢true, and_parts}
use Rattle.cdi_live.proofs.Common.{or_left, or_parts, Some, list_any, Decl, InterceptorDecl, BeanPlace, Qual, Edit, DeclKey}
use Rattle.cdi_live.proofs.Common.{key_of, AreDistinct, edited_all, edited_keys, edits_keep_decl, is_among, key_at, IsPresent, all_present}
use Rattle.cdi_live.proofs.Common.{each_all, Tells, in_order, is_seen, made_of_interceptor, reads_in, option_map, option_to_list}
use Rattle.cdi_live.proofs.Common.{IsBetween, Sides, arith}
use Rattle.std.proofs.lemmas.{Bool.not-false, Slice.Eq.slice_eq-Decides}
use Rattle.std.specs.{Cmp.Lexicographic.pointwise, Option.option_and_then}
use Rattle.cdi_model.specs.declared.decl.Decl.TheVariants as decls
use Rattle.cdi_model.specs.declared.decl.Kind.TheVariants as kinds
use Rattle.base_lists.specs.Sorting.{sorted_by}
use Rattle.cdi_intercept.specs.Chains.{as_interceptor}
use Rattle.cdi_intercept.specs.Sees.{SeenInterceptor, seen_interceptor}
use Rattle.cdi_seen.specs.Gives.{interceptor_given, is_before_interceptor, unranked}
use Rattle.cdi_seen.specs.Touched.{interceptors_alike, same_seen_interceptor}
use Rattle.cdi_seen.proofs.{ContributionLemmas.edits_keep_given, SameLemmas.same_seen_interceptor-decides}
use Rattle.cdi_seen.proofs.{ChainLemmas.interceptors_by_declaration, ChainLemmas.keep_interceptors}
use Rattle.cdi_live.specs.Compared.{find_interceptor, is_filled_otherwise, is_moved}
use Rattle.cdi_live.specs.ChainCompared.{see_same_interceptors}
use Rattle.cdi_live.proofs.AskedLemmas.{any-among}

same-given : (ds es : List Decl) (list : List Qual) (place : BeanPlace) (i : InterceptorDecl) → seen_interceptor ds i ≡ seen_interceptor es i
    → interceptor_given list place ds (decls.Interceptor i) ≡ interceptor_given list place es (decls.Interceptor i)
same-given ds es list place i same = grind (arith, i.priority, same)

module _ (edits : List Edit) (ds : List Decl) (told : List DeclKey) (distinct : AreDistinct ds) (apart : AreDistinct (edited_all ds edits))
    (tells : Tells ds (edited_all ds edits) (edited_keys edits) told)
    (none : list_any (is_moved ds (edited_all ds edits) (edited_keys edits)) told ≡ false) (list : List Qual) (place : BeanPlace) where
  abbrev es : List Decl
  es = edited_all ds edits

  abbrev keys : List DeclKey
  keys = edited_keys edits

  abbrev named : InterceptorDecl → DeclKey
  named i = key_at kinds.Interceptor i.name

  unmoved : (k : DeclKey) → is_among told k ≡ true → is_moved ds es keys k ≡ false
  unmoved k there = by (is_moved ds es keys k) refl
    where
      by : (b : Bool) → is_moved ds es keys k ≡ b → b ≡ false
      by false e = refl
      by true e = absurd (false≢true (sym none ∙ any-among (is_moved ds es keys) told k there e))

  not-edited : (i : InterceptorDecl) → is_among keys (named i) ≡ true → false ≡ true
  not-edited i edited =
      sym (unmoved (named i) (tells.edited (named i) refl edited))
      ∙ or_left (is_among keys (named i)) (is_filled_otherwise ds es i.name) edited

  -- one that is affected without an edit is seen as before
  seen-as-before : (i : InterceptorDecl) → IsPresent ds (decls.Interceptor i) → is_among keys (named i) ≡ false
      → is_among told (named i) ≡ true → seen_interceptor ds i ≡ seen_interceptor es i
  seen-as-before i there unedited affected =
      let parts = or_parts (is_among keys (named i)) (is_filled_otherwise ds es i.name) (unmoved (named i) affected) in
      let found-before : find_interceptor i.name ds ≡ Some i = ap (option_and_then as_interceptor) there in
      let found-after : find_interceptor i.name es ≡ Some i =
      ap (option_and_then as_interceptor) (edits_keep_decl edits ds kinds.Interceptor i.name unedited) ∙ found-before in
      let alike : interceptors_alike ds (i ∷ []) es (i ∷ []) ≡ true =
      (λ j. interceptors_alike ds (option_to_list (sym found-before j)) es (option_to_list (sym found-after j))) ∙ not-false _ parts.1 in
      (same_seen_interceptor-decides (seen_interceptor ds i) (seen_interceptor es i)).0
      (and_parts (same_seen_interceptor (seen_interceptor ds i) (seen_interceptor es i)) true alike).0

  before : (d : Decl) → IsPresent ds d → is_among keys (key_of d) ≡ true → interceptor_given list place ds d ≡ []
  before (decls.Interceptor i) there edited = absurd (false≢true (not-edited i edited))
  before (decls.Bean d) there edited = refl
  before other there edited = refl

  after : (d : Decl) → IsPresent es d → is_among keys (key_of d) ≡ true → interceptor_given list place es d ≡ []
  after (decls.Interceptor i) there edited = absurd (false≢true (not-edited i edited))
  after (decls.Bean d) there edited = refl
  after other there edited = refl

  others : (d : Decl) → IsPresent ds d → is_among keys (key_of d) ≡ false
      → interceptor_given list place ds d ≡ interceptor_given list place es d
  others (decls.Interceptor i) there unedited = by (is_among told (named i)) refl
    where
      by : (b : Bool) → is_among told (named i) ≡ b
          → interceptor_given list place ds (decls.Interceptor i) ≡ interceptor_given list place es (decls.Interceptor i)
      by true affected = same-given ds es list place i (seen-as-before i there unedited affected)
      by false apart = sym (keep_interceptors edits ds list place (decls.Interceptor i)
          (λ key edited. ap (λ o. is_among (reads_in (option_map made_of_interceptor o)) key) (sym there)
          ∙ tells.apart (named i) apart key edited))
  others (decls.Bean d) there unedited = refl
  others other there unedited = refl

  seen-same : map (seen_interceptor ds) (filter (is_seen list place) (in_order ds))
      ≡ map (seen_interceptor es) (filter (is_seen list place) (in_order es))
  seen-same = interceptors_by_declaration ds list place
      ∙ ap (λ given. unranked (sorted_by is_before_interceptor given))
      (sym (edits_keep_given (interceptor_given list place) edits ds (record {
        before = each_all before ds (all_present ds distinct);
        after = each_all after es (all_present es apart);
        others = each_all others ds (all_present ds distinct);
      })))
      ∙ sym (interceptors_by_declaration es list place)

  pub interceptors-stay : see_same_interceptors ds es list place ≡ true
  interceptors-stay =
      let olds : List SeenInterceptor = map (seen_interceptor ds) (filter (is_seen list place) (in_order ds)) in
      let news : List SeenInterceptor = map (seen_interceptor es) (filter (is_seen list place) (in_order es)) in
      (slice_eq-Decides same_seen_interceptor-decides olds news (pointwise same_seen_interceptor olds news) refl).1 seen-same

pub between-stay : (sides : Sides) → IsBetween sides → sides.moves_interceptors ≡ false → (list : List Qual) (place : BeanPlace)
    → see_same_interceptors sides.index.now.decls sides.next.now list place ≡ true
between-stay sides between none list place =
    grind (arith, between.edited.decls, between.edited.keys, between.told, between.moves, between.distinct, between.apart, interceptors-stay)
