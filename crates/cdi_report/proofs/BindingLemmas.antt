-- Edits that avoid the binding types that some uses bring leave these uses, and whether two of them differ.
use Rattle.cdi_report.proofs.Common.{◌≡◌, ℕ, true, List, [], ◌∷◌, map, option_map, refl, sym, ap, ◌∙◌, inl, inr, same_text, AllByRecursion}
use Rattle.cdi_report.proofs.Common.{cases_Bool, false≢true, or_left, or_right, key_at, find_decl, edited_all, edited_keys, is_among}
use Rattle.cdi_report.proofs.Common.{name_of_use, Decl, Edit, Qual, not, ◌&&◌, list_any, bytes_eq, edits_keep_decl, ◌⊎◌, arith, Avoid}
use Rattle.cdi_report.proofs.Common.{brought, brought_types, types_brought, with_brought, has, as_binding, binding_reads}
use Rattle.cdi_report.proofs.Common.{brings_type_decides, types_brought-has, has_conflict, all-weaker, avoid-names}
use Rattle.std.proofs.lemmas.List.Elements.{Contains-append_cases, Contains-append_left, Contains-append_right, Contains-push}
use Rattle.std.proofs.lemmas.List.Elements.{Contains-push_cases}
use Rattle.std.specs.{List.Contains, Option.unwrap_or}
use Rattle.base_lists.proofs.Any.{any-alike}
use Rattle.cdi_model.specs.declared.decl.Kind.TheVariants as kinds
use Rattle.cdi_match.specs.{Bindings.BringsType, Covering.agrees_by, Covering.are_alike}
use Rattle.cdi_match.proofs.{BindingLemmas.brought_are_these, Chains.chain_more, LocalityLemmas.edits_keep_bindings}
use Rattle.cdi_intercept.specs.Conflicts.{are_opposed}

-- ---- what holds of each

pub all-from : {A : Type 0} (P : A → Type 0) (xs : List A) → ((x : A) → Contains xs x → P x) → AllByRecursion P xs
all-from P [] each = tt
all-from P (x ∷ xs) each = (
  each x (Contains-append_left (x ∷ []) xs x (Contains-push [] x)),
  all-from P xs (λ y c. each y (Contains-append_right (x ∷ []) xs y c)),
)

-- ---- the types of uses with what they bring

has-name : (uses : List Qual) (u : Qual) → Contains uses u → has (map name_of_use uses) (name_of_use u) ≡ true
has-name [] u c = absurd (omega (arith, c.1))
has-name (v ∷ vs) u c = elim (Contains-append_cases (v ∷ []) vs u c) [
  | inl here ↦ first (Contains-push_cases [] v u here)
  | inr later ↦ or_right (bytes_eq (name_of_use v) (name_of_use u)) (has (map name_of_use vs) (name_of_use u)) (has-name vs u later)
]
  where
    first : Contains [] u ⊎ (v ≡ u) → has (map name_of_use (v ∷ vs)) (name_of_use u) ≡ true
    first (inl none) = absurd (omega (arith, none.1))
    first (inr same) = or_left (bytes_eq (name_of_use v) (name_of_use u)) (has (map name_of_use vs) (name_of_use u))
        (same_text (name_of_use v) (name_of_use u) (ap name_of_use same))

-- the type of each is one of those that the uses bring
brought-named : (ds : List Decl) (uses : List Qual) (u : Qual) → Contains (with_brought ds uses) u
    → has (types_brought ds (map name_of_use uses)) (name_of_use u) ≡ true
brought-named ds uses u c =
    types_brought-has ds (map name_of_use uses) (name_of_use u)
    ∙ (brings_type_decides ds (map name_of_use uses) (name_of_use u)).1 (by ((brought_are_these ds uses u).0 c))
  where
    by : Contains uses u ⊎ ((b : List ℕ) × BringsType ds (map name_of_use uses) b × Contains (brought ds b) u)
        → BringsType ds (map name_of_use uses) (name_of_use u)
    by (inl own) = (name_of_use u, has-name uses u own, (0, refl))
    by (inr (b, brings, declared)) = (
      brings.0,
      brings.1,
      chain_more (λ x y. has (brought_types ds x) y) brings.0 b (name_of_use u) brings.2 (has-name (brought ds b) u declared),
    )

-- ---- edits

-- the binding type of a use is declared alike
abbrev pub IsDeclaredAlike : List Decl → List Decl → Qual → Type 0
IsDeclaredAlike ds es u = find_decl kinds.Binding (name_of_use u) ds ≡ find_decl kinds.Binding (name_of_use u) es

module _ (edits : List Edit) (ds : List Decl) (uses : List Qual) (avoid : Avoid (binding_reads ds uses) edits) where
  pub brought-stay : with_brought (edited_all ds edits) uses ≡ with_brought ds uses
  brought-stay = edits_keep_bindings edits ds uses avoid

  -- the binding types of the uses and of what they bring stay as they are declared
  pub brought-alike : AllByRecursion (IsDeclaredAlike ds (edited_all ds edits)) (with_brought ds uses)
  brought-alike = all-from (IsDeclaredAlike ds (edited_all ds edits)) (with_brought ds uses) (λ u c.
      elim (cases_Bool (is_among (edited_keys edits) (key_at kinds.Binding (name_of_use u)))) [
        | inl among ↦ absurd (false≢true
            (sym (avoid-names edits kinds.Binding (types_brought ds (map name_of_use uses)) avoid (name_of_use u) among)
            ∙ brought-named ds uses u c))
        | inr apart ↦ sym (edits_keep_decl edits ds kinds.Binding (name_of_use u) apart)
      ])

-- ---- whether two differ

opposed-alike : (ds es : List Decl) (u v : Qual) → IsDeclaredAlike ds es u → are_opposed ds u v ≡ are_opposed es u v
unfolding are_alike
opposed-alike ds es u v e = ap (λ o. bytes_eq u.name v.name
    && not (agrees_by (λ name. true) (unwrap_or (option_map (λ d. d.members) (as_binding o)) []) u v)) e

pub conflict-alike : (ds es : List Decl) (set : List Qual) → AllByRecursion (IsDeclaredAlike ds es) set
    → has_conflict ds set ≡ has_conflict es set
conflict-alike ds es set alike = any-alike (λ u. list_any (are_opposed ds u) set) (λ u. list_any (are_opposed es u) set) set
    (all-weaker (IsDeclaredAlike ds es) (λ u. list_any (are_opposed ds u) set ≡ list_any (are_opposed es u) set) set
    (λ u one. ap (λ f. list_any f set) (λ i v. opposed-alike ds es u v one i)) alike)
