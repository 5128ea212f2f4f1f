-- Chains of classes that are not suspect see the same after edits.
use Rattle.cdi_live.proofs.Common.{◌≡◌, Bool, true, false, cond, not, ◌&&◌, List, [], ◌∷◌, map, filter, refl, sym, ap, ◌∙◌, inl, inr}
use Rattle.cdi_live.proofs.Common.{list_any, bytes_eq, and_from, false≢true, or_cases, or_left, or_right, Decl, InterceptorDecl, BeanPlace}
use Rattle.cdi_live.proofs.Common.{Qual, uses_one, in_text_order, any-in_text_order, ℕ, Option, Some, None, option_map_or, list_any-append}
use Rattle.cdi_live.proofs.Common.{Edit, DeclKey, key_of, find_decl, AreDistinct, edited_all, edited_keys, is_among, one_text}
use Rattle.cdi_live.proofs.Common.{edits_keep_decl, key_exact, IsPresent, all_present, found_any, unwrap_or, option_map, BeanDecl}
use Rattle.cdi_live.proofs.Common.{name_of_use, has, class_bindings, word_at, words_have, words_by, own_bindings, Tells, ChainKey}
use Rattle.cdi_live.proofs.Common.{is_touched, is_chain_suspect, zero, suc, or_from, or_parts, key_at, Avoid, Chain, as_binding, same_text}
use Rattle.cdi_live.proofs.Common.{as_bean, find_bean, set_at, is_enabled, sees_at, has_place, set_by, made_of, made_of_bean}
use Rattle.cdi_live.proofs.Common.{made_of_binding, made_of_interceptor, reads, reads_in, has_one, key-found, ByChain}
use Rattle.cdi_live.proofs.Common.{touched_where_seen_differs, each_all, is_place_of, brings_to, class_named, classes_bound, is_bound_by}
use Rattle.cdi_live.proofs.Common.{is_intercepted_by, holds, arith}
use Rattle.cdi_model.specs.{DeclKey.same_key, declared.decl.BindingDecl.BindingDecl}
use Rattle.cdi_model.specs.declared.decl.Decl.TheVariants as decls
use Rattle.cdi_model.specs.declared.decl.Kind.TheVariants as kinds
use Rattle.cdi_model.specs.declared.place.BeanPlace.TheVariants as places
use Rattle.cdi_match.specs.Bindings.{brings, brought_by, types_brought, with_brought}
use Rattle.cdi_match.specs.{Filling.find_binding, Locality.binding_reads}
use Rattle.cdi_match.proofs.BindingLemmas.{brings_type_decides, types_brought-has}
use Rattle.cdi_effective.specs.Reads.{record_reads}
use Rattle.cdi_postings.specs.declared.word.Reason.TheVariants as reasons
use Rattle.cdi_index.proofs.ChangeLemmas.{none-of}
use Rattle.cdi_intercept.specs.{Sets.around_method, Sets.of_method, Sets.of_observer, Sets.of_producer, Bindings.set_of}
use Rattle.cdi_seen.proofs.{ContributionLemmas.edits_keep_given, SetLemmas.brought-within, SetLemmas.has-names_append, SetLemmas.name-among}
use Rattle.cdi_seen.specs.{Gives.interceptor_given, Gives.ranked_interceptor, Rests.own_reads, Rests.place_reads, Words.types_bound_by}
use Rattle.cdi_seen.proofs.{ChainLemmas.chain_same_from, ChainLemmas.keep_interceptors, ChainLemmas.no_interceptor, UseLemmas.uses_by_name}
use Rattle.cdi_live.proofs.{BoundLemmas.class-word, BoundLemmas.own-word, ListedLemmas.of-passing}
use Rattle.cdi_live.specs.ChainSuspects.{is_chain_suspect_by, is_intercepted, is_intercepted_in}

-- a key among those of some names is of one of them
record IsNamed (key : DeclKey) (names : List (List ℕ)) : Type 0 where
  name : List ℕ
  is : key ≡ key_at kinds.Binding name
  has_it : has names name ≡ true

named : (names : List (List ℕ)) (key : DeclKey) → is_among (map (key_at kinds.Binding) names) key ≡ true → IsNamed key names
named [] key h = absurd (false≢true h)
named (n ∷ names) key h = elim (or_cases (same_key (key_at kinds.Binding n) key) (is_among (map (key_at kinds.Binding) names) key) h) [
  | inl here ↦ record {
    name = n;
    is = sym (key_exact (key_at kinds.Binding n) key here);
    has_it = or_left (bytes_eq n n) (has names n) (same_text n n refl);
  }
  | inr there ↦
      let it = named names key there in
      record { name = it.name; is = it.is; has_it = or_right (bytes_eq n it.name) (has names it.name) it.has_it }
]

-- a test that is true of a name is true of a use of it
any-use : (p : List ℕ → Bool) (us : List Qual) (x : List ℕ) → has (map name_of_use us) x ≡ true → p x ≡ true
    → list_any (λ u. p u.name) us ≡ true
any-use p [] x h holds = absurd (false≢true h)
any-use p (u ∷ us) x h holds = elim (or_cases (bytes_eq u.name x) (has (map name_of_use us) x) h) [
  | inl here ↦ or_left (p u.name) (list_any (λ u. p u.name) us) (ap p (one_text u.name x here) ∙ holds)
  | inr there ↦ or_right (p u.name) (list_any (λ u. p u.name) us) (any-use p us x there holds)
]

names-filtered : (p : Qual → Bool) (us : List Qual) (x : List ℕ) → has (map name_of_use (filter p us)) x ≡ true
    → has (map name_of_use us) x ≡ true
names-filtered p [] x h = h
names-filtered p (u ∷ us) x h = grind (arith, names-filtered p us x, u.name)

-- ---- one list of declarations

module _ (ds : List Decl) where
  -- a binding type from which a chain of one step or more leads to another reads it
  reads-brought : (n y u : List ℕ) → brings ds n u ≡ true → Chain (brings ds) u y
      → reads (made_of ds (key_at kinds.Binding n)) (key_at kinds.Binding y) ≡ true
  reads-brought n y u step more = by (find_binding n ds) refl step
    where
      by : (o : Option BindingDecl) → find_binding n ds ≡ o → brings ds n u ≡ true
          → reads (made_of ds (key_at kinds.Binding n)) (key_at kinds.Binding y) ≡ true
      by None at h = absurd (false≢true (ap (λ o. has (map name_of_use (brought_by o)) u) (sym at) ∙ h))
      by (Some d) at h =
          let first : has (map name_of_use d.declares) u ≡ true = ap (λ o. has (map name_of_use (brought_by o)) u) (sym at) ∙ h in
          ap (λ o. reads (option_map (made_of_binding ds) o) (key_at kinds.Binding y)) at
          ∙ name-among (types_brought ds (map name_of_use d.declares)) y
          (types_brought-has ds (map name_of_use d.declares) y
          ∙ (brings_type_decides ds (map name_of_use d.declares) y).1 (u, first, more))

  -- where a bean is found
  pub bean-there : (class : List ℕ) (b : BeanDecl) → find_bean class ds ≡ Some b
      → (find_decl kinds.Bean class ds ≡ Some (decls.Bean b)) × (b.name ≡ class)
  bean-there class b found = by (find_decl kinds.Bean class ds) refl found
    where
      name_in : (d : Decl) → find_decl kinds.Bean class ds ≡ Some d → class ≡ (key_of d).name
      name_in d at = ap (λ (k : DeclKey). k.name) (key-found kinds.Bean class ds d at)

      by : (o : Option Decl) → find_decl kinds.Bean class ds ≡ o → as_bean o ≡ Some b
          → (find_decl kinds.Bean class ds ≡ Some (decls.Bean b)) × (b.name ≡ class)
      by None at h = absurd (let no : None ≡ Some b = h in cc)
      by (Some (decls.Bean x)) at h =
          let one : x ≡ b = cc in (
            at ∙ ap (λ y. Some (decls.Bean y)) one,
            ap (λ (y : BeanDecl). y.name) (sym one)
                ∙ sym (name_in (decls.Bean x) at),
          )
      by (Some (decls.Type x)) at h = absurd (let no : None ≡ Some b = h in cc)
      by (Some (decls.Qualifier x)) at h = absurd (let no : None ≡ Some b = h in cc)
      by (Some (decls.Binding x)) at h = absurd (let no : None ≡ Some b = h in cc)
      by (Some (decls.Stereotype x)) at h = absurd (let no : None ≡ Some b = h in cc)
      by (Some (decls.Interceptor x)) at h = absurd (let no : None ≡ Some b = h in cc)

  module _ (class : List ℕ) (b : BeanDecl) (found : find_bean class ds ≡ Some b) where
    -- the class of a bean with the word of a binding type is among those of the type
    bound : (n : List ℕ) → words_have (words_by ds (decls.Bean b)) (word_at reasons.Binds n) ≡ true
        → holds (classes_bound ds n) class ≡ true
    bound n has =
        let there = bean-there class b found in
        let test : Decl → Bool = has_one ds (word_at reasons.Binds n ∷ []) in
        of-passing class_named test class ds
        (found_any kinds.Bean class ds (decls.Bean b) (λ d. test d && holds (class_named d) class) there.0
        (and_from (test (decls.Bean b)) (holds (class_named (decls.Bean b)) class)
        (or_left (words_have (words_by ds (decls.Bean b)) (word_at reasons.Binds n)) false has)
        (or_left (bytes_eq b.name class) false (same_text b.name class there.1))))

    -- it is intercepted by each type that its own binding brings
    by-chain : (n x : List ℕ) → words_have (words_by ds (decls.Bean b)) (word_at reasons.Binds n) ≡ true → Chain (brings ds) n x
        → is_intercepted ds x class ≡ true
    by-chain n x has (zero, same) = or_left (holds (classes_bound ds x) class) (list_any (brings_to ds x class) ds)
        (ap (λ m. holds (classes_bound ds m) class) (sym same) ∙ bound n has)
    by-chain n x has (suc k, (u, step, more)) = or_right (holds (classes_bound ds x) class) (list_any (brings_to ds x class) ds)
        (at (find_decl kinds.Binding n ds) refl (reads-brought n x u step (k, more)))
      where
        at : (o : Option Decl) → find_decl kinds.Binding n ds ≡ o
            → reads (made_of ds (key_at kinds.Binding n)) (key_at kinds.Binding x) ≡ true
            → list_any (brings_to ds x class) ds ≡ true
        at None none read = absurd (false≢true (ap (λ o. reads (option_map (made_of_binding ds) (as_binding o)) (key_at kinds.Binding x))
            (sym none) ∙ read))
        at (Some d) there read =
            let one : key_of d ≡ key_at kinds.Binding n = sym (key-found kinds.Binding n ds d there) in
            found_any kinds.Binding n ds d (brings_to ds x class) there
            (and_from (reads (made_of ds (key_of d)) (key_at kinds.Binding x)) (is_bound_by ds (key_of d) class)
            (ap (λ k. reads (made_of ds k) (key_at kinds.Binding x)) one ∙ read)
            (ap (λ k. is_bound_by ds k class) one ∙ bound n has))

    own-intercepted : (place : BeanPlace) (x : List ℕ) → has (map name_of_use (with_brought ds (own_bindings b place))) x ≡ true
        → is_intercepted ds x class ≡ true
    own-intercepted place x h =
        let us : List Qual = own_bindings b place in
        let from = (brings_type_decides ds (map name_of_use us) x).0
        (sym (types_brought-has ds (map name_of_use us) x) ∙ brought-within ds us x h) in
        by-chain from.0 x (own-word from.0 b ds place from.1) from.2

    class-intercepted : (x : List ℕ) → has (map name_of_use (class_bindings ds b)) x ≡ true → is_intercepted ds x class ≡ true
    class-intercepted x h = by-chain x x (class-word x b ds h) (zero, refl)

    around-intercepted : (place : BeanPlace) (own : Option (List Qual)) → own_bindings b place ≡ unwrap_or own [] → (x : List ℕ)
        → has (map name_of_use (around_method ds (class_bindings ds b) own)) x ≡ true → is_intercepted ds x class ≡ true
    around-intercepted place None is x h = absurd (false≢true h)
    around-intercepted place (Some own) is x h =
        let brought : List Qual = with_brought ds own in
        let rest : List Qual = filter (λ u. not (uses_one brought u.name)) (class_bindings ds b) in
        elim (or_cases (has (map name_of_use brought) x) (has (map name_of_use rest) x) (sym (has-names_append brought rest x) ∙ h)) [
          | inl here ↦ own-intercepted place x (ap (λ us. has (map name_of_use (with_brought ds us)) x) is ∙ here)
          | inr there ↦ class-intercepted x (names-filtered (λ u. not (uses_one brought u.name)) (class_bindings ds b) x there)
        ]

    set-intercepted : (place : BeanPlace) (x : List ℕ) → has (map name_of_use (set_by ds (class_bindings ds b) b place)) x ≡ true
        → is_intercepted ds x class ≡ true
    set-intercepted (places.Method name) x h = around-intercepted (places.Method name) (of_method b name) refl x h
    set-intercepted (places.Producer name) x h = around-intercepted (places.Producer name) (of_producer b name) refl x h
    set-intercepted (places.Observer name) x h = around-intercepted (places.Observer name) (of_observer b name) refl x h
    set-intercepted other x h = class-intercepted x h

  -- each type of a binding at a place intercepts the class
  at-place : (class : List ℕ) (place : BeanPlace) (x : List ℕ) → has (map name_of_use (set_at ds class place)) x ≡ true
      → is_intercepted ds x class ≡ true
  at-place class place x h = by (find_bean class ds) refl h
    where
      by : (o : Option BeanDecl) → find_bean class ds ≡ o → has (map name_of_use (set_of ds o place)) x ≡ true
          → is_intercepted ds x class ≡ true
      by None found e = absurd (false≢true e)
      by (Some b) found e = set-intercepted class b found place x e

-- ---- edits

module _ (edits : List Edit) (ds : List Decl) (told : List DeclKey) (distinct : AreDistinct ds) (apart : AreDistinct (edited_all ds edits))
    (tells : Tells ds (edited_all ds edits) (edited_keys edits) told) (class : List ℕ)
    (clear : is_chain_suspect ds (edited_all ds edits) told class ≡ false) where
  abbrev es : List Decl
  es = edited_all ds edits

  abbrev keys : List DeclKey
  keys = edited_keys edits

  suspect : (k : DeclKey) → is_among told k ≡ true → is_chain_suspect_by ds es class k ≡ false
  suspect k among = none-of (is_chain_suspect_by ds es class) told k clear among

  bean-untold : is_among told (key_at kinds.Bean class) ≡ false
  bean-untold = by (is_among told (key_at kinds.Bean class)) refl
    where
      by : (b : Bool) → is_among told (key_at kinds.Bean class) ≡ b → b ≡ false
      by false e = refl
      by true e = absurd (false≢true (sym (suspect (key_at kinds.Bean class) e) ∙ same_text class class refl))

  bean-unedited : is_among keys (key_at kinds.Bean class) ≡ false
  bean-unedited = grind (arith, false≢true, bean-untold)

  found-same : find_bean class es ≡ find_bean class ds
  found-same = ap as_bean (edits_keep_decl edits ds kinds.Bean class bean-unedited)

  pub place-same : (place : BeanPlace) → is_place_of es class place ≡ is_place_of ds class place
  place-same place = ap (λ o. option_map_or (λ b. has_place b place) o false) found-same

  -- a binding type from which a chain leads to an edited one is told
  chain-told : (n y : List ℕ) → is_among keys (key_at kinds.Binding y) ≡ true → Chain (brings ds) n y
      → is_among told (key_at kinds.Binding n) ≡ true
  chain-told n y edited (zero, same) =
      ap (λ m. is_among told (key_at kinds.Binding m)) same ∙ tells.edited (key_at kinds.Binding y) refl edited
  chain-told n y edited (suc k, (u, step, more)) = by (is_among told (key_at kinds.Binding n)) refl
    where
      by : (b : Bool) → is_among told (key_at kinds.Binding n) ≡ b → b ≡ true
      by true e = refl
      by false e = absurd (false≢true (sym (tells.apart (key_at kinds.Binding n) e (key_at kinds.Binding y) edited)
          ∙ reads-brought ds n y u step (k, more)))

  -- what the own bindings at a place bring is not edited
  own-avoid : (b : BeanDecl) → find_bean class ds ≡ Some b → (place : BeanPlace) → Avoid (binding_reads ds (own_bindings b place)) edits
  own-avoid b found place key edited = by (is_among (binding_reads ds (own_bindings b place)) key) refl
    where
      us : List Qual
      us = own_bindings b place

      by : (c : Bool) → is_among (binding_reads ds us) key ≡ c → c ≡ false
      by false e = refl
      by true e =
          let it = named (types_brought ds (map name_of_use us)) key e in
          let from = (brings_type_decides ds (map name_of_use us) it.name).0
          (sym (types_brought-has ds (map name_of_use us) it.name) ∙ it.has_it) in
          let among : is_among told (key_at kinds.Binding from.0) ≡ true =
          chain-told from.0 it.name (ap (is_among keys) (sym it.is) ∙ edited) from.2 in
          absurd (false≢true (sym (suspect (key_at kinds.Binding from.0) among)
          ∙ bound ds class b found from.0 (own-word from.0 b ds place from.1)))

  record-avoid : (b : BeanDecl) → find_bean class ds ≡ Some b → Avoid (record_reads ds b) edits
  record-avoid b found key edited =
      ap (λ o. is_among (reads_in (option_map (made_of_bean ds) o)) key) (sym found)
      ∙ tells.apart (key_at kinds.Bean class) bean-untold key edited

  place-avoid : (place : BeanPlace) (o : Option BeanDecl) → find_bean class ds ≡ o → Avoid (place_reads ds place o) edits
  place-avoid place None found key edited = refl
  place-avoid place (Some b) found key edited =
      list_any-append (λ k. same_key k key) (record_reads ds b) (binding_reads ds (own_bindings b place))
      ∙ or_from (is_among (record_reads ds b) key) (is_among (binding_reads ds (own_bindings b place)) key)
      (record-avoid b found key edited) (own-avoid b found place key edited)

  own-part : (place : BeanPlace) → Avoid (own_reads ds (ChainKey class place)) edits
  own-part place key edited =
      or_from (same_key (key_at kinds.Bean class) key) (is_among (place_reads ds place (find_bean class ds)) key)
      (by (same_key (key_at kinds.Bean class) key) refl) (place-avoid place (find_bean class ds) refl key edited)
    where
      by : (b : Bool) → same_key (key_at kinds.Bean class) key ≡ b → b ≡ false
      by false e = refl
      by true e = absurd (false≢true (sym bean-unedited ∙ ap (is_among keys) (key_exact (key_at kinds.Bean class) key e) ∙ edited))

  -- ---- told interceptors share no type with the bindings at a place

  module _ (place : BeanPlace) where
    abbrev list : List Qual
    list = in_text_order (set_at ds class place)

    unshared : (i : InterceptorDecl) → is_intercepted_by ds class i.bindings ≡ false → (x : List ℕ)
        → has (types_bound_by (decls.Interceptor i)) x ≡ true → uses_one list x ≡ false
    unshared i none x h = by (uses_one list x) refl
      where
        in-names : (e : Bool) → has (cond e (map name_of_use i.bindings) []) x ≡ true → has (map name_of_use i.bindings) x ≡ true
        in-names true h = h
        in-names false h = absurd (false≢true h)

        by : (b : Bool) → uses_one list x ≡ b → b ≡ false
        by false e = refl
        by true e = absurd (false≢true (sym none ∙ any-use (λ n. is_intercepted ds n class) i.bindings x (in-names (is_enabled i) h)
            (at-place ds class place x (sym (uses_by_name (set_at ds class place) x)
            ∙ sym (any-in_text_order (λ v. bytes_eq x v.name) (set_at ds class place)) ∙ e))))

    nothing : (all : List Decl) (i : InterceptorDecl) → is_intercepted_by ds class i.bindings ≡ false
        → interceptor_given list place all (decls.Interceptor i) ≡ []
    nothing all i none = ap (map (ranked_interceptor all)) (no_interceptor list place (decls.Interceptor i) (unshared i none))

    -- as it is before, and as it is after
    sides : (i : InterceptorDecl) → is_among told (key_at kinds.Interceptor i.name) ≡ true
        → (is_intercepted_in ds class (find_decl kinds.Interceptor i.name ds) ≡ false)
        × (is_intercepted_in ds class (find_decl kinds.Interceptor i.name es) ≡ false)
    sides i among = or_parts (is_intercepted_in ds class (find_decl kinds.Interceptor i.name ds))
        (is_intercepted_in ds class (find_decl kinds.Interceptor i.name es)) (suspect (key_at kinds.Interceptor i.name) among)

    told-before : (i : InterceptorDecl) → IsPresent ds (decls.Interceptor i) → is_among told (key_at kinds.Interceptor i.name) ≡ true
        → is_intercepted_by ds class i.bindings ≡ false
    told-before i there among = ap (is_intercepted_in ds class) (sym there) ∙ (sides i among).0

    told-after : (i : InterceptorDecl) → IsPresent es (decls.Interceptor i) → is_among told (key_at kinds.Interceptor i.name) ≡ true
        → is_intercepted_by ds class i.bindings ≡ false
    told-after i there among = ap (is_intercepted_in ds class) (sym there) ∙ (sides i among).1

    before : (d : Decl) → IsPresent ds d → is_among keys (key_of d) ≡ true → interceptor_given list place ds d ≡ []
    before (decls.Interceptor i) there edited =
        nothing ds i (told-before i there (tells.edited (key_at kinds.Interceptor i.name) refl edited))
    before (decls.Bean d) there edited = refl
    before other there edited = refl

    after : (d : Decl) → IsPresent es d → is_among keys (key_of d) ≡ true → interceptor_given list place es d ≡ []
    after (decls.Interceptor i) there edited =
        nothing es i (told-after i there (tells.edited (key_at kinds.Interceptor i.name) refl edited))
    after (decls.Bean d) there edited = refl
    after other there edited = refl

    others : (d : Decl) → IsPresent ds d → is_among keys (key_of d) ≡ false
        → interceptor_given list place ds d ≡ interceptor_given list place es d
    others (decls.Interceptor i) there none = by (is_among told (key_at kinds.Interceptor i.name)) refl
      where
        now : IsPresent es (decls.Interceptor i)
        now = edits_keep_decl edits ds kinds.Interceptor i.name none ∙ there

        by : (c : Bool) → is_among told (key_at kinds.Interceptor i.name) ≡ c
            → interceptor_given list place ds (decls.Interceptor i) ≡ interceptor_given list place es (decls.Interceptor i)
        by true among = nothing ds i (told-before i there among) ∙ sym (nothing es i (told-after i now among))
        by false untold = sym (keep_interceptors edits ds list place (decls.Interceptor i)
            (λ key edited. ap (λ o. is_among (reads_in (option_map made_of_interceptor o)) key) (sym there)
            ∙ tells.apart (key_at kinds.Interceptor i.name) untold key edited))
    others (decls.Bean d) there none = refl
    others other there none = refl

    sees-same : sees_at es class place ≡ sees_at ds class place
    sees-same = chain_same_from edits ds class place (own-part place)
        (edits_keep_given (interceptor_given list place) edits ds (record {
          before = each_all before ds (all_present ds distinct);
          after = each_all after es (all_present es apart);
          others = each_all others ds (all_present ds distinct);
        }))

    pub chain-same : is_touched ds es (ChainKey class place) ≡ false
    chain-same = un-not (is_touched ds es (ChainKey class place))
        ((touched_where_seen_differs ds es (ChainKey class place)).1 (ap ByChain (sym sees-same)))
      where
        un-not : (b : Bool) → not b ≡ true → b ≡ false
        un-not true h = absurd (false≢true h)
        un-not false h = refl
