-- The types of the bindings at a place are among what their sets rest on.
use Rattle.cdi_seen.proofs.Common.{◌≡◌, ℕ, Bool, true, false, cond, List, [], ◌∷◌, ◌++◌, map, filter, flat_map, Option, Some, None}
use Rattle.cdi_seen.proofs.Common.{unwrap_or, refl, sym, ap, ◌∙◌, bytes_eq, or_from, or_left, or_right, map-append, key_at, Avoid}
use Rattle.cdi_seen.proofs.Common.{name_of_use, BeanDecl, Decl, Edit, BeanPlace, Qual, avoid-first, avoid-second, has, binding_reads}
use Rattle.cdi_seen.proofs.Common.{class_bindings, in_place_of, record_reads, around_method, of_method, of_observer, same_text, of_producer}
use Rattle.cdi_seen.proofs.Common.{set_by, own_bindings, use_reads, both_ways, false_from_ne_true, or_parts, list_any-append, is_among}
use Rattle.cdi_seen.proofs.Common.{DeclKey, ◌||◌, inl, inr, false≢true, or_cases, same_key_equiv, arith}
use Rattle.std.proofs.Common.{◌⊎◌}
use Rattle.base_numbers.proofs.Texts.{one_text}
use Rattle.cdi_model.specs.DeclKey.{same_key}
use Rattle.cdi_model.proofs.EntryLemmas.{key_exact}
use Rattle.cdi_model.specs.declared.decl.Kind.TheVariants as kinds
use Rattle.cdi_model.specs.declared.decl.UseKind.TheVariants as uses
use Rattle.cdi_model.specs.declared.place.BeanPlace.TheVariants as places
use Rattle.cdi_match.specs.Bindings.{BringsType, brings, brought, types_brought, with_brought}
use Rattle.cdi_match.specs.Stereotypes.{stereotype_decls}
use Rattle.cdi_match.proofs.{BindingLemmas.brings_type_decides, BindingLemmas.types_brought-has, Chains.chain_more}
use Rattle.cdi_effective.specs.{Reads.bean_reads, Reads.chain_reads, Reads.class_reads, Reads.product_reads, Bindings.stereotype_bindings}

-- ---- uses bring no type but those that are reached

pub has-names_append : (us vs : List Qual) (x : List ℕ)
    → has (map name_of_use (us ++ vs)) x ≡ (has (map name_of_use us) x || has (map name_of_use vs) x)
has-names_append us vs x = grind (arith, map-append, list_any-append)

found-from : (ds : List Decl) (bs : List (List ℕ)) (x : List ℕ) → has (map name_of_use (flat_map (brought ds) bs)) x ≡ true
    → (b : List ℕ) × (has bs b ≡ true) × (has (map name_of_use (brought ds b)) x ≡ true)
found-from ds [] x h = absurd (false≢true h)
found-from ds (b ∷ bs) x h =
    elim (or_cases (has (map name_of_use (brought ds b)) x) (has (map name_of_use (flat_map (brought ds) bs)) x)
    (sym (has-names_append (brought ds b) (flat_map (brought ds) bs) x) ∙ h)) [
      | inl here ↦ (b, or_left (bytes_eq b b) (has bs b) (same_text b b refl), here)
      | inr there ↦
          let more = found-from ds bs x there in
          (more.0, or_right (bytes_eq b more.0) (has bs more.0) more.1, more.2)
    ]

pub brought-within : (ds : List Decl) (us : List Qual) (x : List ℕ) → has (map name_of_use (with_brought ds us)) x ≡ true
    → has (types_brought ds (map name_of_use us)) x ≡ true
unfolding with_brought
brought-within ds us x h =
    let types : List (List ℕ) = map name_of_use us in
    let reached : List (List ℕ) = types_brought ds types in
    types_brought-has ds types x
    ∙ (brings_type_decides ds types x).1
    (chain (or_cases (has types x) (has (map name_of_use (flat_map (brought ds) reached)) x)
    (sym (has-names_append us (flat_map (brought ds) reached) x) ∙ h)))
  where
    chain : (has (map name_of_use us) x ≡ true)
        ⊎ (has (map name_of_use (flat_map (brought ds) (types_brought ds (map name_of_use us)))) x ≡ true)
        → BringsType ds (map name_of_use us) x
    chain (inl own) = (x, own, (0, refl))
    chain (inr there) =
        let from = found-from ds (types_brought ds (map name_of_use us)) x there in
        let to = (brings_type_decides ds (map name_of_use us) from.0).0
        (sym (types_brought-has ds (map name_of_use us) from.0) ∙ from.1) in
        (to.0, to.1, chain_more (brings ds) to.0 from.0 x to.2 from.2)

-- ---- keys of uses

abbrev binding_key : List ℕ → DeclKey
binding_key name = key_at kinds.Binding name

use-among : (us : List Qual) (key : DeclKey) → is_among (use_reads uses.Binding us) key ≡ true
    → (x : List ℕ) × (has (map name_of_use us) x ≡ true) × (binding_key x ≡ key)
use-among [] key h = absurd (false≢true h)
use-among (u ∷ us) key h =
    elim (or_cases (same_key (binding_key u.name) key) (is_among (use_reads uses.Binding us) key) h) [
      | inl here ↦ (
        u.name,
        or_left (bytes_eq u.name u.name) (has (map name_of_use us) u.name) (same_text u.name u.name refl),
        key_exact (binding_key u.name) key here,
      )
      | inr there ↦
          let more = use-among us key there in
          (more.0, or_right (bytes_eq u.name more.0) (has (map name_of_use us) more.0) more.1, more.2)
    ]

pub name-among : (names : List (List ℕ)) (x : List ℕ) → has names x ≡ true → is_among (map binding_key names) (binding_key x) ≡ true
name-among [] x h = absurd (false≢true h)
name-among (n ∷ names) x h = elim (or_cases (bytes_eq n x) (has names x) h) [
  | inl here ↦ or_left (same_key (binding_key n) (binding_key x)) (is_among (map binding_key names) (binding_key x))
      (ap (λ m. same_key (binding_key n) (binding_key m)) (sym (one_text n x here)) ∙ same_key_equiv.refl (binding_key n))
  | inr there ↦ or_right (same_key (binding_key n) (binding_key x)) (is_among (map binding_key names) (binding_key x))
      (name-among names x there)
]

-- ---- what edits avoid

avoid-brought : (edits : List Edit) (ds : List Decl) (us : List Qual) → Avoid (binding_reads ds us) edits
    → Avoid (use_reads uses.Binding (with_brought ds us)) edits
avoid-brought edits ds us avoid key edited = false_from_ne_true (is_among (use_reads uses.Binding (with_brought ds us)) key) never
  where
    never : is_among (use_reads uses.Binding (with_brought ds us)) key ≡ true → ⊥
    never h =
        let named = use-among (with_brought ds us) key h in
        let among : is_among (binding_reads ds us) (binding_key named.0) ≡ true =
        name-among (types_brought ds (map name_of_use us)) named.0 (brought-within ds us named.0 named.1) in
        both_ways (is_among (binding_reads ds us) key) (avoid key edited) (ap (is_among (binding_reads ds us)) (sym named.2) ∙ among)

none-filtered : (p : Qual → Bool) (us : List Qual) (key : DeclKey) → is_among (use_reads uses.Binding us) key ≡ false
    → is_among (use_reads uses.Binding (filter p us)) key ≡ false
none-filtered p [] key h = refl
none-filtered p (u ∷ us) key h =
    let parts = or_parts (same_key (binding_key u.name) key) (is_among (use_reads uses.Binding us) key) h in
    by (p u) parts.0 (none-filtered p us key parts.1)
  where
    by : (b : Bool) → same_key (binding_key u.name) key ≡ false → is_among (use_reads uses.Binding (filter p us)) key ≡ false
        → is_among (use_reads uses.Binding (cond b (u ∷ filter p us) (filter p us))) key ≡ false
    by true here rest = or_from (same_key (binding_key u.name) key) (is_among (use_reads uses.Binding (filter p us)) key) here rest
    by false here rest = rest

avoid-both : (edits : List Edit) (us vs : List Qual) → Avoid (use_reads uses.Binding us) edits → Avoid (use_reads uses.Binding vs) edits
    → Avoid (use_reads uses.Binding (us ++ vs)) edits
avoid-both edits us vs first second key edited = grind (arith, map-append, list_any-append, or_from)

avoid-in_place : (edits : List Edit) (others own : List Qual) → Avoid (use_reads uses.Binding others) edits
    → Avoid (use_reads uses.Binding own) edits → Avoid (use_reads uses.Binding (in_place_of others own)) edits
avoid-in_place edits others own first second = grind (arith, avoid-both, none-filtered)

-- the types of the bindings of a class
avoid-class : (edits : List Edit) (ds : List Decl) (b : BeanDecl) → Avoid (class_reads ds b) edits
    → Avoid (use_reads uses.Binding (class_bindings ds b)) edits
avoid-class edits ds b avoid =
    let given : List Qual = stereotype_bindings (stereotype_decls ds b.attributes.stereotypes) in
    avoid-in_place edits (with_brought ds given) (with_brought ds b.bindings)
    (avoid-brought edits ds given (avoid-second edits (binding_reads ds b.bindings) (binding_reads ds given) avoid))
    (avoid-brought edits ds b.bindings (avoid-first edits (binding_reads ds b.bindings) (binding_reads ds given) avoid))

avoid-around : (edits : List Edit) (ds : List Decl) (class : List Qual) (own : Option (List Qual))
    → Avoid (use_reads uses.Binding class) edits → Avoid (binding_reads ds (unwrap_or own [])) edits
    → Avoid (use_reads uses.Binding (around_method ds class own)) edits
avoid-around edits ds class None first avoid = λ key edited. refl
avoid-around edits ds class (Some own) first avoid =
    avoid-in_place edits class (with_brought ds own) first (avoid-brought edits ds own avoid)

avoid-set : (edits : List Edit) (ds : List Decl) (class : List Qual) (b : BeanDecl) (place : BeanPlace)
    → Avoid (use_reads uses.Binding class) edits → Avoid (binding_reads ds (own_bindings b place)) edits
    → Avoid (use_reads uses.Binding (set_by ds class b place)) edits
avoid-set edits ds class b (places.Method name) first avoid = avoid-around edits ds class (of_method b name) first avoid
avoid-set edits ds class b (places.Producer name) first avoid = avoid-around edits ds class (of_producer b name) first avoid
avoid-set edits ds class b (places.Observer name) first avoid = avoid-around edits ds class (of_observer b name) first avoid
avoid-set edits ds class b other first avoid = first

class-part : (edits : List Edit) (ds : List Decl) (b : BeanDecl) → Avoid (record_reads ds b) edits → Avoid (class_reads ds b) edits
class-part edits ds b avoid =
    let own = key_at kinds.Bean b.name in
    let bean = bean_reads ds b.name b.attributes.stereotypes in
    let class = class_reads ds b in
    let products = product_reads ds b.producers in
    let front = avoid-first edits (own ∷ bean ++ class ++ products) (chain_reads ds b) avoid in
    avoid-second edits bean class (avoid-second edits (own ∷ []) (bean ++ class) (avoid-first edits (own ∷ bean ++ class) products front))

-- The declarations of the types of the bindings at a place are not edited, where nothing is on which its set rests.
pub avoid_set_types : (edits : List Edit) (ds : List Decl) (b : BeanDecl) (place : BeanPlace) → Avoid (record_reads ds b) edits
    → Avoid (binding_reads ds (own_bindings b place)) edits → Avoid (use_reads uses.Binding (set_by ds (class_bindings ds b) b place)) edits
avoid_set_types edits ds b place apart own =
    avoid-set edits ds (class_bindings ds b) b place (avoid-class edits ds b (class-part edits ds b apart)) own
