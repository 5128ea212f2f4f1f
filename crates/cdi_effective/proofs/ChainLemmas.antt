-- In the chain of a bean are those to which steps of specialization lead from it, each once.
use Rattle.cdi_effective.proofs.Common.{◌≡◌, ◌<◌, ℕ, Bool, true, false, cond, List, [], ◌∷◌, length, refl, sym, ap, ◌∙◌, bytes_eq, one_text}
use Rattle.cdi_effective.proofs.Common.{option_to_list, Decl, ◌⊎◌, zero, suc, is_some, Option, Some, None, subst, inl, inr, bytes_eq-turned}
use Rattle.cdi_effective.proofs.Common.{arith, AllByRecursion, IsDistinct, cases_Bool, false≢true, or_cases, or_left, or_right, same_text}
use Rattle.cdi_effective.proofs.Common.{AllPairs-from_IsDistinct, key_of, name_of_decl, key_at, same_key, limit, BeanDecl, key_exact, has}
use Rattle.cdi_effective.proofs.Common.{as_bean, find_bean, specialized, on_from, chain_behind, behind, chain, class_names}
use Rattle.std.proofs.Common.{◌≤◌}
use Rattle.std.specs.Cmp.Lexicographic.{bytes_decides}
use Rattle.std.proofs.lemmas.Bool.{or_parts}
use Rattle.base_lists.proofs.Each.{all-weaker}
use Rattle.cdi_model.specs.declared.decl.Decl.TheVariants as decls
use Rattle.cdi_model.specs.declared.decl.Kind.TheVariants as kinds
use Rattle.cdi_match.specs.Chain.{Chain, Steps}
use Rattle.cdi_match.proofs.{Chains.apart, Chains.apart_has, Chains.apart_shorter, Listed.names_of, Listed.length-names_of}
use Rattle.cdi_effective.specs.Specialized.{class_after, specializes, ChainsAreThese, IsChainOf}

abbrev Names : Type 0
Names = List (List ℕ)

-- ---- what is found by a name has it

pub named : (n : List ℕ) (d : Decl) (s : BeanDecl) → same_key (key_at kinds.Bean n) (key_of d) ≡ true → as_bean (Some d) ≡ Some s
    → s.name ≡ n
named n (decls.Bean b) s key is =
    let same : b ≡ s = cc in
    sym (ap (λ c. c.name) same) ∙ sym (ap (λ k. k.name) (key_exact (key_at kinds.Bean n) (key_of (decls.Bean b)) key))
named n other s key is = cc

pub found-name : (ds : List Decl) (n : List ℕ) (s : BeanDecl) → find_bean n ds ≡ Some s → s.name ≡ n
found-name [] n s is = cc
found-name (d ∷ ds) n s is = elim (cases_Bool (same_key (key_at kinds.Bean n) (key_of d))) [
  | inl same ↦ named n d s same (rw same at is)
  | inr other ↦ found-name ds n s (rw other at is)
]

-- a bean that is specialized is found by its name
found-self : (ds : List Decl) (n : List ℕ) (s : BeanDecl) → find_bean n ds ≡ Some s → find_bean s.name ds ≡ Some s
found-self ds n s is = ap (λ m. find_bean m ds) (found-name ds n s is) ∙ is

pub specialized-found : (ds : List Decl) (c s : BeanDecl) → specialized ds c ≡ Some s → find_bean s.name ds ≡ Some s
specialized-found ds c s is = grind (arith, c.specializes, c.name, s.name, found-self)

-- a bean that is declared has one of the names
has-declared : (ds : List Decl) (n : List ℕ) → is_some (find_bean n ds) ≡ true → has (names_of ds) n ≡ true
has-declared [] n is = absurd (false≢true is)
has-declared (d ∷ ds) n is = elim (cases_Bool (same_key (key_at kinds.Bean n) (key_of d))) [
  | inl same ↦ or_left (bytes_eq (name_of_decl d) n) (has (names_of ds) n)
      (same_text (name_of_decl d) n (sym (ap (λ k. k.name) (key_exact (key_at kinds.Bean n) (key_of d) same))))
  | inr other ↦ or_right (bytes_eq (name_of_decl d) n) (has (names_of ds) n) (has-declared ds n (rw other at is))
]

-- ---- the edges by their beans

abbrev class_after_of : Option BeanDecl → Names
class_after_of o = class_names (option_to_list o)

-- a step leads from a declared bean to the one that it specializes alone
step-to : (ds : List Decl) (c : BeanDecl) (o : Option BeanDecl) (y : List ℕ) → find_bean c.name ds ≡ Some c → specialized ds c ≡ o
    → specializes ds c.name y ≡ has (class_after_of o) y
step-to ds c o y found is = ap (λ b. has (class_after ds b) y) found ∙ ap (λ p. has (class_after_of p) y) is

-- and so to a declared one
step-declared : (ds : List Decl) (x y : List ℕ) → specializes ds x y ≡ true → is_some (find_bean y ds) ≡ true
step-declared ds x y h = by (find_bean x ds) h
  where
    to : (o : Option BeanDecl) → ((s : BeanDecl) → o ≡ Some s → find_bean s.name ds ≡ Some s) → has (class_after_of o) y ≡ true
        → is_some (find_bean y ds) ≡ true
    to None found e = absurd (false≢true e)
    to (Some s) found e = elim (or_cases (bytes_eq s.name y) false e) [
      | inl same ↦ ap (λ n. is_some (find_bean n ds)) (sym (one_text s.name y same)) ∙ ap is_some (found s refl)
      | inr none ↦ absurd (false≢true none)
    ]

    by : (b : Option BeanDecl) → has (class_after ds b) y ≡ true → is_some (find_bean y ds) ≡ true
    by None e = absurd (false≢true e)
    by (Some c) e = to (specialized ds c) (λ s is. specialized-found ds c s is) e

-- ---- none twice

module _ (ds : List Decl) where
  abbrev more : ℕ → Names → BeanDecl → List BeanDecl
  more n met s = chain_behind n ds (s.name ∷ met) s

  abbrev NoneMet : Names → List BeanDecl → Type 0
  NoneMet met beans = AllByRecursion (λ k. has met k ≡ false) (class_names beans)

  abbrev IsOnce : Names → List BeanDecl → Type 0
  IsOnce met beans = NoneMet met beans × IsDistinct bytes_eq (class_names beans)

  put-once : (met : Names) (s : BeanDecl) (rest : List BeanDecl) (b : Bool) → has met s.name ≡ b → IsOnce (s.name ∷ met) rest
      → IsOnce met (cond b [] (s ∷ rest))
  unfolding IsDistinct
  put-once met s rest b e once = grind (arith, s.name, once.0, once.1, all-weaker)

  on-once : (n : ℕ) → ((met : Names) (c : BeanDecl) → IsOnce met (chain_behind n ds met c)) → (met : Names) (o : Option BeanDecl)
      → IsOnce met (on_from met (more n met) o)
  unfolding IsDistinct
  on-once n once met None = (tt, tt)
  on-once n once met (Some s) = put-once met s (more n met s) (has met s.name) refl (once (s.name ∷ met) s)

  each-once : (n : ℕ) (met : Names) (c : BeanDecl) → IsOnce met (chain_behind n ds met c)
  unfolding chain_behind IsDistinct
  each-once zero met c = (tt, tt)
  each-once (suc n) met c = on-once n (each-once n) met (specialized ds c)

  -- ---- each is reached

  on-reached : (n : ℕ) → ((met : Names) (c : BeanDecl) (y : List ℕ) → find_bean c.name ds ≡ Some c
      → has (class_names (chain_behind n ds met c)) y ≡ true → Chain (specializes ds) c.name y)
      → (met : Names) (c : BeanDecl) (o : Option BeanDecl) (y : List ℕ) → find_bean c.name ds ≡ Some c → specialized ds c ≡ o
      → has (class_names (on_from met (more n met) o)) y ≡ true → Chain (specializes ds) c.name y
  on-reached n reached met c None y found is h = absurd (false≢true h)
  on-reached n reached met c (Some s) y found is h = by (has met s.name) h
    where
      edge : specializes ds c.name s.name ≡ true
      edge = step-to ds c (Some s) s.name found is ∙ or_left (bytes_eq s.name s.name) false (same_text s.name s.name refl)

      by : (b : Bool) → has (class_names (cond b [] (s ∷ more n met s))) y ≡ true → Chain (specializes ds) c.name y
      by true e = absurd (false≢true e)
      by false e = elim (or_cases (bytes_eq s.name y) (has (class_names (more n met s)) y) e) [
        | inl here ↦ (1, (s.name, edge, one_text s.name y here))
        | inr there ↦
            let rest = reached (s.name ∷ met) s y (specialized-found ds c s is) there in
            (suc rest.0, (s.name, edge, rest.1))
      ]

  each-reached : (n : ℕ) (met : Names) (c : BeanDecl) (y : List ℕ) → find_bean c.name ds ≡ Some c
      → has (class_names (chain_behind n ds met c)) y ≡ true → Chain (specializes ds) c.name y
  unfolding chain_behind
  each-reached zero met c y found h = absurd (false≢true h)
  each-reached (suc n) met c y found h = on-reached n (each-reached n) met c (specialized ds c) y found refl h

  -- ---- each that is reached is there

  -- each declared bean was met, or is left
  abbrev Covers : Names → Names → Type 0
  Covers met left = (x : List ℕ) → is_some (find_bean x ds) ≡ true → (has met x ≡ true) ⊎ (has left x ≡ true)

  -- what follows one of these was met, or is one of those behind
  abbrev IsClosed : Names → BeanDecl → List BeanDecl → Type 0
  IsClosed met c beans = (x y : List ℕ) → has (c.name ∷ class_names beans) x ≡ true → specializes ds x y ≡ true
      → (has met y ≡ true) ⊎ (has (class_names beans) y ≡ true)

  abbrev Closes : ℕ → Type 0
  Closes n = (met left : Names) (c : BeanDecl) → Covers met left → length left ≤ n → find_bean c.name ds ≡ Some c
      → IsClosed met c (chain_behind n ds met c)

  -- without t
  covers-less : (met left : Names) (t : List ℕ) → Covers met left → Covers (t ∷ met) (apart t left)
  covers-less met left t covers x declared = grind (arith, apart_has, bytes_eq-turned)

  -- at the bean itself
  at-first : (met : Names) (c : BeanDecl) (o : Option BeanDecl) (x y : List ℕ) → find_bean c.name ds ≡ Some c → specialized ds c ≡ o
      → bytes_eq c.name x ≡ true → specializes ds x y ≡ true → has (class_after_of o) y ≡ true
  at-first met c o x y found is same step =
      sym (step-to ds c o y found is) ∙ ap (λ z. specializes ds z y) (one_text c.name x same) ∙ step

  on-closed : (n : ℕ) → Closes n → (met left : Names) (c : BeanDecl) (o : Option BeanDecl) → Covers met left → length left ≤ suc n
      → find_bean c.name ds ≡ Some c → specialized ds c ≡ o → IsClosed met c (on_from met (more n met) o)
  on-closed n closes met left c None covers room found is x y among step = elim (or_cases (bytes_eq c.name x) false among) [
    | inl same ↦ absurd (false≢true (at-first met c None x y found is same step))
    | inr none ↦ absurd (false≢true none)
  ]
  on-closed n closes met left c (Some t) covers room found is x y among step = by (has met t.name) refl among
    where
      declared : find_bean t.name ds ≡ Some t
      declared = specialized-found ds c t is

      is_t : bytes_eq c.name x ≡ true → t.name ≡ y
      is_t same = elim (or_cases (bytes_eq t.name y) false (at-first met c (Some t) x y found is same step)) [
        | inl e ↦ one_text t.name y e
        | inr none ↦ absurd (false≢true none)
      ]

      behind_t : List BeanDecl
      behind_t = more n met t

      by : (b : Bool) → has met t.name ≡ b → has (c.name ∷ class_names (cond b [] (t ∷ behind_t))) x ≡ true
          → (has met y ≡ true) ⊎ (has (class_names (cond b [] (t ∷ behind_t))) y ≡ true)
      by true e h = elim (or_cases (bytes_eq c.name x) false h) [
        | inl same ↦ inl (ap (has met) (sym (is_t same)) ∙ e)
        | inr none ↦ absurd (false≢true none)
      ]
      by false e h = elim (or_cases (bytes_eq c.name x) (has (t.name ∷ class_names behind_t) x) h) [
        | inl same ↦ inr (or_left (bytes_eq t.name y) (has (class_names behind_t) y) (same_text t.name y (is_t same)))
        | inr later ↦
            let among_left : has left t.name ≡ true = elim (covers t.name (ap is_some declared)) [
              | inl was ↦ absurd (false≢true (sym e ∙ was))
              | inr is ↦ is
            ] in
            let fewer : length (apart t.name left) < length left = apart_shorter t.name left among_left in
            elim (closes (t.name ∷ met) (apart t.name left) t (covers-less met left t.name covers) (omega (arith, fewer, room)) declared x y
            later step) [
              | inl was ↦ elim (or_cases (bytes_eq t.name y) (has met y) was) [
                | inl same ↦ inr (or_left (bytes_eq t.name y) (has (class_names behind_t) y) same)
                | inr before ↦ inl before
              ]
              | inr there ↦ inr (or_right (bytes_eq t.name y) (has (class_names behind_t) y) there)
            ]
      ]

  none-left : (left : Names) (y : List ℕ) → length left ≤ zero → has left y ≡ true → ⊥
  none-left [] y room is = false≢true is
  none-left (n ∷ ns) y room is = omega (arith, room)

  steps-closed : (n : ℕ) → Closes n
  unfolding chain_behind
  steps-closed zero met left c covers room found x y among step = grind (arith, step-declared, none-left)
  steps-closed (suc n) met left c covers room found x y among step =
      on-closed n (steps-closed n) met left c (specialized ds c) covers room found refl x y among step

  all-there : (b : BeanDecl) → length ds ≤ limit → find_bean b.name ds ≡ Some b → (x y : List ℕ)
      → has (class_names (chain ds b)) x ≡ true → specializes ds x y ≡ true → has (class_names (chain ds b)) y ≡ true
  unfolding behind
  all-there b room found x y among step =
      let names = names_of ds in
      let few : length names ≤ limit = omega (arith, length-names_of ds, room) in
      elim (steps-closed limit (b.name ∷ []) names b (λ z declared. inr (has-declared ds z declared)) few found x y among step) [
        | inl was ↦ elim (or_cases (bytes_eq b.name y) false was) [
          | inl same ↦ or_left (bytes_eq b.name y) _ same
          | inr none ↦ absurd (false≢true none)
        ]
        | inr there ↦ or_right (bytes_eq b.name y) _ there
      ]

  steps-there : (b : BeanDecl) → length ds ≤ limit → find_bean b.name ds ≡ Some b → (n : ℕ) (x y : List ℕ)
      → has (class_names (chain ds b)) x ≡ true → Steps (specializes ds) n x y → has (class_names (chain ds b)) y ≡ true
  steps-there b room found zero x y among steps = subst (λ z. has (class_names (chain ds b)) z ≡ true) steps among
  steps-there b room found (suc n) x y among steps =
      steps-there b room found n steps.0 y (all-there b room found x steps.0 among steps.1) steps.2

  pub chain-of : (b : BeanDecl) → length ds ≤ limit → find_bean b.name ds ≡ Some b → IsChainOf ds b (chain ds b)
  unfolding behind IsDistinct
  chain-of b room found =
      let once = each-once limit (b.name ∷ []) b in
      let apart_all : AllByRecursion (λ k. bytes_eq b.name k ≡ false) (class_names (behind ds b)) =
      all-weaker (λ k. has (b.name ∷ []) k ≡ false) (λ k. bytes_eq b.name k ≡ false) (class_names (behind ds b))
      (λ k h. (or_parts (bytes_eq b.name k) false h).0) once.0 in record {
        each = λ y. (
          λ h. elim (or_cases (bytes_eq b.name y) (has (class_names (behind ds b)) y) h) [
            | inl here ↦ (0, one_text b.name y here)
            | inr there ↦ each-reached limit (b.name ∷ []) b y found there
          ],
          λ c. steps-there b room found c.0 b.name y
              (or_left (bytes_eq b.name b.name) (has (class_names (behind ds b)) b.name) (same_text b.name b.name refl)) c.1,
        );
        once = AllPairs-from_IsDistinct bytes_decides (class_names (chain ds b)) (apart_all, once.1);
      }

pub chains_are_these : ChainsAreThese
chains_are_these ds b room found = chain-of ds b room found
