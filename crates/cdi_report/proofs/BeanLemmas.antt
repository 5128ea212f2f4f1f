-- What is known of a bean that is chosen stays where edits do not affect it and leave the interceptors around its places.
use Rattle.cdi_report.proofs.Common.{◌≡◌, Bool, true, false, cond, List, [], ◌∷◌, ◌++◌, flat_map, Option, Some, None, refl, sym, ap, ◌∙◌}
use Rattle.cdi_report.proofs.Common.{AllByRecursion, key_at, find_decl, edited_all, edited_keys, is_among, BeanDecl, Decl, Edit, DeclKey}
use Rattle.cdi_report.proofs.Common.{as_bean, Effective, BeanId, Tells, ◌||◌, BeanPlace, places_of, not, ◌&&◌, length, find, list_any}
use Rattle.cdi_report.proofs.Common.{bytes_eq, edits_keep_decl, records, class_bindings, chain_of, nat_eq, is_some, has_place}
use Rattle.std.proofs.Common.{codes}
use Rattle.cdi_model.proofs.PositionLemmas.{name-found}
use Rattle.cdi_model.specs.declared.decl.Decl.TheVariants as decls
use Rattle.cdi_model.specs.declared.decl.Kind.TheVariants as kinds
use Rattle.cdi_observe.specs.Around.{names_at, names_of_bean}
use Rattle.cdi_observe.proofs.{AroundLemmas.some-names, AroundLemmas.told-same, AroundLemmas.told-names, BeanPlaceLemmas.has-each_place}
use Rattle.cdi_subjects.specs.Proxies.{is_intercepted, is_normal, is_told_by, needs_subclass_as, needs_subclass_by, needs_subclass_of}
use Rattle.cdi_subjects.specs.{Rests.IsBeanAlike, Sites.methods_in}
use Rattle.cdi_subjects.proofs.ProxyLemmas.{own-bindings}
use Rattle.cdi_report.proofs.SparedLemmas.{class-stays, not-edited, records-stay}

module _ (edits : List Edit) (ds : List Decl) (told : List DeclKey) (tells : Tells ds (edited_all ds edits) (edited_keys edits) told) where
  abbrev es : List Decl
  es = edited_all ds edits

  -- ---- a bean declaration that is not affected, with the same interceptors at its places

  module _ (d : BeanDecl) (found : find_decl kinds.Bean d.name ds ≡ Some (decls.Bean d))
      (spared : is_among told (key_at kinds.Bean d.name) ≡ false)
      (chains : (place : BeanPlace) → chain_of es d.name place ≡ chain_of ds d.name place) where
    found-after : find_decl kinds.Bean d.name es ≡ Some (decls.Bean d)
    found-after = edits_keep_decl edits ds kinds.Bean d.name (not-edited edits ds told tells kinds.Bean d.name refl spared) ∙ found

    names-stay : (ps : List BeanPlace) → AllByRecursion (λ place. has_place d place ≡ true) ps
        → flat_map (names_at ds d) ps ≡ flat_map (names_at es d) ps
    names-stay [] all = refl
    names-stay (p ∷ ps) all =
        ap (λ names. names ++ flat_map (names_at ds d) ps) (told-same es d p (names_at ds d p) (ap as_bean found-after) all.0
        (chains p ∙ told-names ds d p (ap as_bean found) all.0))
        ∙ ap (λ more. names_at es d p ++ more) (names-stay ps all.1)

    intercepted-stays : is_intercepted ds (class_bindings ds d) d ≡ is_intercepted es (class_bindings es d) d
    unfolding names_of_bean
    intercepted-stays =
        sym (some-names ds d)
        ∙ ap (λ names. not (nat_eq (length names) 0)) (names-stay (places_of d) (has-each_place d))
        ∙ some-names es d

    subclass-stays : (b : Effective) → (is_some b.id.producer ≡ false → b.bindings ≡ class_bindings ds d)
        → needs_subclass_by ds d b ≡ needs_subclass_by es d b
    subclass-stays b own = ap (λ q. is_normal b.scope || q) (by (is_some b.id.producer) own)
      where
        by : (q : Bool) → (q ≡ false → b.bindings ≡ class_bindings ds d)
            → (not q && is_intercepted ds b.bindings d) ≡ (not q && is_intercepted es b.bindings d)
        by true own = refl
        by false own = ap (λ c. not false && is_intercepted ds c d) (own refl) ∙ ap (λ q. not false && q) intercepted-stays
            ∙ ap (λ c. not false && is_intercepted es c d) (class-stays edits ds told tells d found spared ∙ sym (own refl))

    found-subclass : (test : Effective → Bool)
        → needs_subclass_as ds d (find test (records ds d)) ≡ needs_subclass_as es d (find test (records es d))
    found-subclass test = by (find test (records ds d)) refl
        ∙ ap (λ bs. needs_subclass_as es d (find test bs)) (records-stay edits ds told tells d found spared)
      where
        by : (o : Option Effective) → find test (records ds d) ≡ o → needs_subclass_as ds d o ≡ needs_subclass_as es d o
        by None e = refl
        by (Some b) e = subclass-stays b (own-bindings ds d test b e)

  -- ---- the bean that an id tells

  module _ (id : BeanId) (spared : is_among told (key_at kinds.Bean id.class) ≡ false)
      (chains : (place : BeanPlace) → chain_of es id.class place ≡ chain_of ds id.class place) where
    decl-stays : find_decl kinds.Bean id.class ds ≡ find_decl kinds.Bean id.class es
    decl-stays = sym (edits_keep_decl edits ds kinds.Bean id.class (not-edited edits ds told tells kinds.Bean id.class refl spared))

    found-stays : (o : Option Decl) → find_decl kinds.Bean id.class ds ≡ o
        → needs_subclass_of ds id (as_bean o) ≡ needs_subclass_of es id (as_bean o)
    found-stays None e = refl
    found-stays (Some (decls.Bean d)) e =
        let name : d.name ≡ id.class = name-found kinds.Bean id.class ds (decls.Bean d) e in
        found-subclass d (ap (λ n. find_decl kinds.Bean n ds) name ∙ e) (ap (λ n. is_among told (key_at kinds.Bean n)) name ∙ spared)
        (λ place. ap (λ n. chain_of es n place) name ∙ chains place ∙ ap (λ n. chain_of ds n place) (sym name)) (is_told_by id.producer)
    found-stays (Some (decls.Type d)) e = refl
    found-stays (Some (decls.Qualifier d)) e = refl
    found-stays (Some (decls.Binding d)) e = refl
    found-stays (Some (decls.Stereotype d)) e = refl
    found-stays (Some (decls.Interceptor d)) e = refl

    pub bean-alike : IsBeanAlike ds es id
    bean-alike = record {
      subclass = found-stays (find_decl kinds.Bean id.class ds) refl ∙ ap (λ o. needs_subclass_of es id (as_bean o)) decl-stays;
      methods = λ method. ap (λ o. cond (is_some id.producer) (bytes_eq method (codes "value"))
          (list_any (λ m. bytes_eq m.name method) (methods_in (as_bean o)))) decl-stays;
    }
