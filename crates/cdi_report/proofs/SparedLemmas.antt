-- What the faults of a declaration rest on stays where edits spare it.
use Rattle.cdi_report.proofs.Common.{all-weaker, ◌≡◌, ℕ, Bool, true, false, cond, List, [], ◌∷◌, ◌++◌, map, flat_map, Option, Some, None}
use Rattle.cdi_report.proofs.Common.{IfSome, option_map, refl, sym, ap, ◌∙◌, inl, inr, AllByRecursion, cases_Bool, false≢true, kind_of}
use Rattle.cdi_report.proofs.Common.{one_text, name_of_decl, key_at, same_key, find_decl, edited_all, edited_keys, is_among, mentions}
use Rattle.cdi_report.proofs.Common.{name_of_use, BeanDecl, Decl, Edit, DeclKey, Qual, entries, as_bean, bean_keys, bean_reads, chain_reads}
use Rattle.cdi_report.proofs.Common.{class_reads, link_reads, product_reads, record_reads, specialized_reads, bean_named, behind, extended}
use Rattle.cdi_report.proofs.Common.{specialized, Effective, made_of_bean, reads_in, Tells, AreQualifiersSpared, IsBindingSpared, IsSpared}
use Rattle.cdi_report.proofs.Common.{◌||◌, BeanPlace, BindingDecl, StereotypeDecl, bytes_eq, edits_keep_decl, records, class_bindings}
use Rattle.cdi_report.proofs.Common.{arith, Avoid, types_brought, has, as_binding, binding_reads, brings_type_decides, types_brought-has}
use Rattle.cdi_report.proofs.Common.{suc, Chain, Kind, key_exact, zero, brings_itself, stereotype_reads, inherits_itself, same_text}
use Rattle.cdi_report.proofs.Common.{extends_itself, or_cases, effective, product, records_declared, records_in, own_at, avoid-first}
use Rattle.cdi_report.proofs.Common.{avoid-second, made_of, made_of_binding, made_of_type, IsNotEdited, named_in, among-names, found-name}
use Rattle.cdi_model.proofs.EditLemmas.{avoid-head}
use Rattle.cdi_model.specs.declared.decl.Decl.TheVariants as decls
use Rattle.cdi_model.specs.declared.decl.Kind.TheVariants as kinds
use Rattle.cdi_match.specs.{Bindings.brings, Bindings.brought_by, Filling.find_binding, Stereotypes.as_stereotype, Stereotypes.inherited_of}
use Rattle.cdi_effective.specs.Beans.{managed}
use Rattle.cdi_effective.proofs.PlaceLemmas.{bean-decl}
use Rattle.cdi_index.specs.Made.{is_kept}
use Rattle.cdi_subjects.specs.Rests.{specialized_seen, types_and_name, AreAlike, AreProductsAlike, DifferAlike, HasQualifiersAlike}
use Rattle.cdi_subjects.specs.{Rests.IsSeenAlike, Subjects.products, Subjects.reaches_itself}
use Rattle.cdi_report.proofs.ItselfLemmas.{binding-circle, stereotype-circle, type-circle}
use Rattle.cdi_report.proofs.{OwnLemmas.own-spared, OwnLemmas.AreSpared, PlaceLemmas.differ-alike}

-- a key that is among those of some names is that of one
pub among-map : (kind : Kind) (names : List (List ℕ)) (key : DeclKey) → is_among (map (key_at kind) names) key ≡ true
    → (n : List ℕ) × (has names n ≡ true) × (key_at kind n ≡ key)
among-map kind [] key among = absurd (false≢true among)
among-map kind (n ∷ names) key among = elim (or_cases (same_key (key_at kind n) key) (is_among (map (key_at kind) names) key) among) [
  | inl here ↦ (n, ap (λ b. b || has names n) (same_text n n refl), key_exact (key_at kind n) key here)
  | inr later ↦ (let more = among-map kind names key later in
      (more.0, ap (λ b. bytes_eq n more.0 || b) more.1 ∙ grind arith, more.2))
]

module _ (edits : List Edit) (ds : List Decl) (told : List DeclKey) (tells : Tells ds (edited_all ds edits) (edited_keys edits) told) where
  abbrev es : List Decl
  es = edited_all ds edits

  abbrev keys : List DeclKey
  keys = edited_keys edits

  -- what is made of a declaration that is not told avoids what is edited
  avoids : (k : DeclKey) → is_among told k ≡ false → Avoid (reads_in (made_of ds k)) edits
  avoids k spared key among = tells.apart k spared key among

  -- what is told of nothing is not edited
  pub not-edited : (kind : Kind) (name : List ℕ) → is_kept kind ≡ true → is_among told (key_at kind name) ≡ false
      → is_among keys (key_at kind name) ≡ false
  not-edited kind name kept spared = grind (arith, false≢true)

  -- ---- names

  alike-named : (o : Option (Kind × List ℕ)) → IsNotEdited keys o → AreAlike ds es o
  alike-named None spared = tt
  alike-named (Some (kind, name)) spared = sym (edits_keep_decl edits ds kind name spared)

  -- ---- uses of bindings

  spared-at : (us : List Qual) → AreSpared told us → (x : List ℕ) → has (map name_of_use us) x ≡ true
      → is_among told (key_at kinds.Binding x) ≡ false
  spared-at [] spared x among = absurd (false≢true among)
  spared-at (u ∷ us) spared x among = elim (or_cases (bytes_eq (name_of_use u) x) (has (map name_of_use us) x) among) [
    | inl here ↦ ap (λ n. is_among told (key_at kinds.Binding n)) (sym (one_text (name_of_use u) x here)) ∙ spared.0
    | inr later ↦ spared-at us spared.1 x later
  ]

  -- no chain leads from a binding type that is not told to one that is edited
  no-chain : (x b : List ℕ) → is_among told (key_at kinds.Binding x) ≡ false → is_among keys (key_at kinds.Binding b) ≡ true
      → Chain (brings ds) x b → ⊥
  no-chain x b spared among (zero, is) =
      false≢true (sym (not-edited kinds.Binding x refl spared) ∙ ap (λ n. is_among keys (key_at kinds.Binding n)) is ∙ among)
  no-chain x b spared among (suc n, (w, edge, steps)) = by (find_binding x ds) refl
    where
      by : (o : Option BindingDecl) → find_binding x ds ≡ o → ⊥
      by None e = false≢true (sym (ap (λ o. has (map name_of_use (brought_by o)) w) e) ∙ edge)
      by (Some d) e =
          let first : has (map name_of_use d.declares) w ≡ true = sym (ap (λ o. has (map name_of_use (brought_by o)) w) e) ∙ edge in
          false≢true (sym (avoids (key_at kinds.Binding x) spared (key_at kinds.Binding b) among)
          ∙ ap (λ o. is_among (reads_in (option_map (made_of_binding ds) o)) (key_at kinds.Binding b)) e
          ∙ among-names kinds.Binding (types_brought ds (map name_of_use d.declares)) b
          ∙ types_brought-has ds (map name_of_use d.declares) b
          ∙ (brings_type_decides ds (map name_of_use d.declares) b).1 (w, first, (n, steps)))

  uses-avoid : (us : List Qual) → AreSpared told us → Avoid (binding_reads ds us) edits
  uses-avoid us spared key among = elim (cases_Bool (is_among (binding_reads ds us) key)) [
    | inl one ↦ absurd (let it = among-map kinds.Binding (types_brought ds (map name_of_use us)) key one in
        let chain = (brings_type_decides ds (map name_of_use us) it.0).0 (sym (types_brought-has ds (map name_of_use us) it.0) ∙ it.1) in
        no-chain chain.0 it.0 (spared-at us spared chain.0 chain.1) (ap (is_among keys) it.2 ∙ among) chain.2)
    | inr none ↦ none
  ]

  -- ---- a bean

  module _ (d : BeanDecl) (found : find_decl kinds.Bean d.name ds ≡ Some (decls.Bean d))
      (spared : is_among told (key_at kinds.Bean d.name) ≡ false) where
    found-after : find_decl kinds.Bean d.name es ≡ Some (decls.Bean d)
    found-after = edits_keep_decl edits ds kinds.Bean d.name (not-edited kinds.Bean d.name refl spared) ∙ found

    pub records-stay : records ds d ≡ records es d
    unfolding records_in
    records-stay =
        sym (ap (λ o. records_declared ds (as_bean o)) found) ∙ sym (tells.records d.name spared)
        ∙ ap (λ o. records_declared es (as_bean o)) found-after

    managed-stays : managed ds d ≡ managed es d
    managed-stays = heads (managed ds d) (managed es d) (map (product ds d) d.producers) (map (product es d) d.producers) records-stay
      where
        heads : {A : Type 0} (x y : A) (xs ys : List A) → x ∷ xs ≡ y ∷ ys → x ≡ y
        heads x y xs ys e = cc

    pub class-stays : class_bindings es d ≡ class_bindings ds d
    unfolding effective
    class-stays = sym (ap (λ (b : Effective). b.bindings) managed-stays)

    rests : Avoid (record_reads ds d) edits
    rests key among =
        sym (ap (λ o. is_among (reads_in (option_map (made_of_bean ds) (as_bean o))) key) found)
        ∙ avoids (key_at kinds.Bean d.name) spared key among

    abbrev own-reads : List DeclKey
    own-reads = key_at kinds.Bean d.name ∷ bean_reads ds d.name d.attributes.stereotypes

    abbrev with-class : List DeclKey
    with-class = own-reads ++ class_reads ds d

    abbrev with-products : List DeclKey
    with-products = with-class ++ product_reads ds d.producers

    class-avoid : Avoid (class_reads ds d) edits
    class-avoid = avoid-second edits own-reads (class_reads ds d)
        (avoid-first edits with-class (product_reads ds d.producers) (avoid-first edits with-products (chain_reads ds d) rests))

    next-avoid : Avoid (specialized_reads ds d) edits
    next-avoid = avoid-first edits (specialized_reads ds d) (flat_map (link_reads ds) (behind ds d))
        (avoid-second edits with-products (chain_reads ds d) rests)

    differ : AllByRecursion (IsBindingSpared told) (mentions (decls.Bean d)) → DifferAlike ds es (decls.Bean d)
    differ bindings place = differ-alike edits ds d class-avoid class-stays
        (λ at. own-uses at (own_at d at) (own-spared told d bindings at)) place
      where
        own-uses : (at : BeanPlace) (o : Option (List Qual)) → IfSome o (AreSpared told)
            → IfSome o (λ us. Avoid (binding_reads ds us) edits)
        own-uses at None all = tt
        own-uses at (Some us) all = uses-avoid us all

    -- ---- the bean that it specializes

    named-stays : (o : Option (List ℕ)) → Avoid (bean_keys o) edits → bean_named ds o ≡ bean_named es o
    named-stays None avoid = refl
    named-stays (Some class) avoid = ap as_bean
        (sym (edits_keep_decl edits ds kinds.Bean class (avoid-head edits (key_at kinds.Bean class) [] avoid)))

    specialized-stays : is_among keys (key_at kinds.Type d.name) ≡ false → specialized ds d ≡ specialized es d
    specialized-stays apart = by d.specializes next-avoid
      where
        by : (b : Bool) → Avoid (cond b (bean_keys (extended (find_decl kinds.Type d.name ds))) []) edits
            → cond b (bean_named ds (extended (find_decl kinds.Type d.name ds))) None
            ≡ cond b (bean_named es (extended (find_decl kinds.Type d.name es))) None
        by false avoid = refl
        by true avoid = named-stays (extended (find_decl kinds.Type d.name ds)) avoid
            ∙ ap (λ o. bean_named es (extended o)) (sym (edits_keep_decl edits ds kinds.Type d.name apart))

  named-found : (o : Option (List ℕ)) (s : BeanDecl) → bean_named ds o ≡ Some s → find_decl kinds.Bean s.name ds ≡ Some (decls.Bean s)
  named-found None s is = absurd (let no : None ≡ Some s = is in cc)
  named-found (Some class) s is =
      ap (λ n. find_decl kinds.Bean n ds) (found-name ds class s is) ∙ bean-decl (find_decl kinds.Bean class ds) s is

  specialized-found : (d s : BeanDecl) → specialized ds d ≡ Some s → find_decl kinds.Bean s.name ds ≡ Some (decls.Bean s)
  specialized-found d s is = by d.specializes is
    where
      by : (b : Bool) → cond b (bean_named ds (extended (find_decl kinds.Type d.name ds))) None ≡ Some s
          → find_decl kinds.Bean s.name ds ≡ Some (decls.Bean s)
      by false e = absurd (let no : None ≡ Some s = e in cc)
      by true e = named-found (extended (find_decl kinds.Type d.name ds)) s e

  seen-stays : (d : BeanDecl) → find_decl kinds.Bean d.name ds ≡ Some (decls.Bean d) → is_among told (key_at kinds.Bean d.name) ≡ false
      → is_among keys (key_at kinds.Type d.name) ≡ false → IfSome (specialized ds d) (λ s. is_among told (key_at kinds.Bean s.name) ≡ false)
      → specialized_seen ds (decls.Bean d) ≡ specialized_seen es (decls.Bean d)
  seen-stays d found spared apart next =
      by (specialized ds d) refl next ∙ ap (λ o. option_map types_and_name (option_map (managed es) o))
      (specialized-stays d found spared apart)
    where
      by : (o : Option BeanDecl) → specialized ds d ≡ o → IfSome o (λ s. is_among told (key_at kinds.Bean s.name) ≡ false)
          → option_map types_and_name (option_map (managed ds) o) ≡ option_map types_and_name (option_map (managed es) o)
      by None e all = refl
      by (Some s) e all = ap (λ m. Some (types_and_name m)) (managed-stays s (specialized-found d s e) all)

  -- ---- whether it reaches itself

  type-stays : (t : List ℕ) (d : Decl) → find_decl kinds.Type t ds ≡ Some d → is_among told (key_at kinds.Type t) ≡ false
      → extends_itself ds t ≡ extends_itself es t
  type-stays t d found spared = sym (type-circle edits ds t (λ key among.
      sym (ap (λ o. is_among (reads_in (option_map (λ d. made_of_type ds t) o)) key) found)
      ∙ avoids (key_at kinds.Type t) spared key among))

  binding-stays : (b : List ℕ) (d : BindingDecl) → find_decl kinds.Binding b ds ≡ Some (decls.Binding d)
      → is_among told (key_at kinds.Binding b) ≡ false → brings_itself ds b ≡ brings_itself es b
  binding-stays b d found spared = sym (binding-circle edits ds b (not-edited kinds.Binding b refl spared) (λ key among.
      ap (λ o. is_among (binding_reads ds (brought_by (as_binding o))) key) found
      ∙ sym (ap (λ o. is_among (reads_in (option_map (made_of_binding ds) (as_binding o))) key) found)
      ∙ avoids (key_at kinds.Binding b) spared key among))

  stereotype-stays : (s : List ℕ) (d : StereotypeDecl) → find_decl kinds.Stereotype s ds ≡ Some (decls.Stereotype d)
      → is_among keys (key_at kinds.Stereotype s) ≡ false → Avoid (stereotype_reads ds d.stereotypes) edits
      → inherits_itself ds s ≡ inherits_itself es s
  stereotype-stays s d found own avoid = sym (stereotype-circle edits ds s own (λ key among.
      ap (λ o. is_among (stereotype_reads ds (inherited_of (as_stereotype o))) key) found ∙ avoid key among))

  -- ---- all

  circle-stays : (d : Decl) → find_decl (kind_of d) (name_of_decl d) ds ≡ Some d → IsSpared ds edits told d
      → reaches_itself ds d ≡ reaches_itself es d
  circle-stays (decls.Type d) found spared = type-stays d.name (decls.Type d) found spared.unaffected
  circle-stays (decls.Binding d) found spared = binding-stays d.name d found spared.unaffected
  circle-stays (decls.Stereotype d) found spared = stereotype-stays d.name d found spared.unedited spared.inherited
  circle-stays other found spared = refl

  entries-stay : (d : Decl) → find_decl (kind_of d) (name_of_decl d) ds ≡ Some d → IsSpared ds edits told d → entries ds d ≡ entries es d
  entries-stay (decls.Bean d) found spared = records-stay d found spared.unaffected
  entries-stay other found spared = refl

  qualifiers-alike : (b : Effective) → AreQualifiersSpared keys b → HasQualifiersAlike ds es b
  qualifiers-alike b spared = grind (arith, b.qualifiers, all-weaker, edits_keep_decl)

  products-alike : (d : Decl) → IsSpared ds edits told d → AreProductsAlike ds es d
  products-alike (decls.Bean d) spared =
      all-weaker (AreQualifiersSpared keys) (HasQualifiersAlike ds es) (products ds d) qualifiers-alike spared.qualifiers.1
  products-alike (decls.Type d) spared = tt
  products-alike other spared = tt

  class-apart : (d : BeanDecl) → AllByRecursion (λ m. IsNotEdited keys (named_in m)) (mentions (decls.Bean d))
      → is_among keys (key_at kinds.Type d.name) ≡ false
  unfolding mentions
  class-apart d names = names.0

  specialized-alike : (d : Decl) → find_decl (kind_of d) (name_of_decl d) ds ≡ Some d → IsSpared ds edits told d
      → specialized_seen ds d ≡ specialized_seen es d
  specialized-alike (decls.Bean d) found spared = seen-stays d found spared.unaffected (class-apart d spared.names) spared.specialized
  specialized-alike other found spared = refl

  differ-all : (d : Decl) → find_decl (kind_of d) (name_of_decl d) ds ≡ Some d → IsSpared ds edits told d → DifferAlike ds es d
  differ-all (decls.Bean d) found spared = differ d found spared.unaffected spared.bindings
  differ-all other found spared = tt

  pub seen-alike : (d : Decl) → find_decl (kind_of d) (name_of_decl d) ds ≡ Some d → IsSpared ds edits told d → IsSeenAlike ds es d
  seen-alike d found spared =
      grind (
        arith,
        spared.names,
        spared.answers,
        all-weaker,
        alike-named,
        entries-stay,
        products-alike,
        specialized-alike,
        circle-stays,
        differ-all,
      )
