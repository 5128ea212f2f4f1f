-- A dependent bean needs itself exactly where it is on a circle.
use Rattle.cdi_validate.proofs.Common.{◌≡◌, ◌<◌, List, sym, ap, ◌∙◌, ◌++◌, Decl, beans, circles, ℕ, zero, suc, Bool, true, false, cond, []}
use Rattle.cdi_validate.proofs.Common.{◌∷◌, length, map, flat_map, filter, refl, subst, arith, has, keys_of, Circle, leads, Steps, Some}
use Rattle.cdi_validate.proofs.Common.{BeanId, between, circular, dependents, dependents_by_text, needed_by, needs, needs_itself, circle}
use Rattle.cdi_validate.proofs.Common.{AllByRecursion, byte_order, get, is_marked, IsStrictlySortedBy}
use Rattle.std.specs.{Bool.Decides, List.AllZip, Map.values_of}
use Rattle.std.proofs.lemmas.Bool.Decides.{same_from_decides, Decides-like}
use Rattle.std.proofs.lemmas.Option.{slice_get_within}
use Rattle.cdi_match.specs.Chain.{ChainFromOne, LeaveOnly, reaches_from_one}
use Rattle.cdi_match.proofs.Chains.{reaches_from_one_decides}
use Rattle.cdi_ways.specs.Ways.{IsOnCircle}
use Rattle.cdi_validate.proofs.ClashLemmas.{found-each}
use Rattle.cdi_validate.proofs.NeedLemmas.{between-like, has-by_text, texts-rise}
use Rattle.cdi_validate.proofs.NumberLemmas.{circle_from, circle_to}
use Rattle.cdi_validate.specs.Circles.{next, NeedsItselfOnCircle}
use Rattle.cdi_validate.specs.Needed.{circle_at, edges_of, AreNumbered, IsNumbered}
use Rattle.cdi_validate.specs.declared.circles.Dependents.{Dependents}

leave_only : (ds : List Decl) → LeaveOnly (dependents (beans ds)) (next ds)
leave_only ds x none = ap (λ b. cond b (filter (has (dependents (beans ds))) (needed_by (needs ds) x)) []) none

pub needs_itself_on_circle : NeedsItselfOnCircle
unfolding needs_itself
needs_itself_on_circle ds x =
    let nodes = dependents (beans ds) in
    let decides : Decides (reaches_from_one (length nodes) (next ds) (next ds x) x) (ChainFromOne (leads (next ds)) (next ds x) x) =
    reaches_from_one_decides nodes (next ds) (leave_only ds) (length nodes) (omega arith) (next ds x) x in (
      λ h. let chain = decides.0 h in ((chain.2).0, (chain.0, chain.1, (chain.2).1)),
      λ circle. decides.1 ((circle.1).0, (circle.1).1, (circle.0, (circle.1).2)),
    )

-- ---- circles of the edges that are drawn

-- chains rest on what follows each text
steps-like : (next other : List ℕ → List (List ℕ)) → ((x : List ℕ) → next x ≡ other x) → (n : ℕ) (x y : List ℕ)
    → Steps (leads next) n x y → Steps (leads other) n x y
steps-like next other same zero x y steps = steps
steps-like next other same (suc n) x y steps =
    (steps.0, ap (λ xs. has xs steps.0) (sym (same x)) ∙ steps.1, steps-like next other same n steps.0 y steps.2)

circle-like : (next other : List ℕ → List (List ℕ)) → ((x : List ℕ) → next x ≡ other x) → (x : List ℕ)
    → Circle (leads next) x → Circle (leads other) x
circle-like next other same x circle = (circle.0, steps-like next other same (suc circle.0) x x circle.1)

keys-numbered : (ids : List BeanId) (es : List (List ℕ × ℕ)) (ns : List (List ℕ × BeanId)) → AllZip (IsNumbered ids) es ns
    → keys_of es ≡ keys_of ns
keys-numbered ids [] [] h = refl
keys-numbered ids [] (n ∷ ns) h = absurd h
keys-numbered ids (e ∷ es) [] h = absurd h
keys-numbered ids (e ∷ es) (n ∷ ns) h = ap (λ x. x ∷ keys_of es) h.0.0 ∙ ap (λ xs. n.0 ∷ xs) (keys-numbered ids es ns h.1)

module _ (ds : List Decl) (d : Dependents) (numbered : AreNumbered (dependents_by_text (beans ds)) d) where
  same-keys : keys_of d.numbers.entries ≡ keys_of (dependents_by_text (beans ds))
  same-keys = keys-numbered d.ids d.numbers.entries (dependents_by_text (beans ds)) numbered.named

  same-next : (x : List ℕ) → between (keys_of d.numbers.entries) (needs ds) x ≡ next ds x
  same-next x = ap (λ nodes. between nodes (needs ds) x) same-keys
      ∙ between-like (keys_of (dependents_by_text (beans ds))) (dependents (beans ds)) (has-by_text (beans ds)) (needs ds) x

  -- a bean needs itself just where its number is on a circle
  on_circle : (marked : Bool) (x : List ℕ) (p : ℕ) → get byte_order d.numbers x ≡ Some p
      → Decides marked (IsOnCircle (edges_of d.numbers (needs ds)) p) → marked ≡ needs_itself ds x
  on_circle marked x p at decides =
      let edge : List ℕ → List (List ℕ) = between (keys_of d.numbers.entries) (needs ds) in
      same_from_decides marked (needs_itself ds x)
      (Decides-like marked
      (λ on. circle-like edge (next ds) same-next x (circle_from d.numbers (needs ds) numbered.apart x p at on))
      (λ on. circle_to d.numbers (needs ds) numbered.apart x p at (circle-like (next ds) edge (λ y. sym (same-next y)) x on))
      decides)
      (needs_itself_on_circle ds x)

  -- where each number is marked that is on a circle, the beans that are marked need themselves
  module _ (marks : List Bool) (decide : (p : ℕ) → Decides (is_marked marks p) (IsOnCircle (edges_of d.numbers (needs ds)) p)) where
    marked-each : (es : List (List ℕ × ℕ)) (ns : List (List ℕ × BeanId)) → AllZip (IsNumbered d.ids) es ns
        → AllByRecursion (λ e. get byte_order d.numbers e.0 ≡ Some e.1) es
        → flat_map (circle_at d.ids marks) (values_of es) ≡ map circle (map (λ n. n.1) (filter (λ n. needs_itself ds n.0) ns))
    marked-each [] [] h found = refl
    marked-each [] (n ∷ ns) h found = absurd h
    marked-each (e ∷ es) [] h found = absurd h
    marked-each (e ∷ es) (n ∷ ns) h found =
        let is : is_marked marks e.1 ≡ needs_itself ds n.0 =
        on_circle (is_marked marks e.1) e.0 e.1 found.0 (decide e.1) ∙ ap (needs_itself ds) h.0.0 in
        by (needs_itself ds n.0) is (marked-each es ns h.1 found.1)
      where
        by : (b : Bool) → is_marked marks e.1 ≡ b
            → flat_map (circle_at d.ids marks) (values_of es) ≡ map circle (map (λ n. n.1) (filter (λ n. needs_itself ds n.0) ns))
            → circle_at d.ids marks e.1 ++ flat_map (circle_at d.ids marks) (values_of es)
            ≡ map circle (map (λ n. n.1) (cond b (n ∷ filter (λ n. needs_itself ds n.0) ns) (filter (λ n. needs_itself ds n.0) ns)))
        by true is rest = rw (is, h.0.1) (ap (λ fs. circle n.1 ∷ fs) rest)
        by false is rest = rw is rest

    pub circles_found : flat_map (circle_at d.ids marks) (values_of d.numbers.entries) ≡ circles ds
    unfolding circular
    circles_found =
        let rise : IsStrictlySortedBy byte_order (keys_of d.numbers.entries) =
        subst (IsStrictlySortedBy byte_order) (sym same-keys) (texts-rise (beans ds)) in
        marked-each d.numbers.entries (dependents_by_text (beans ds)) numbered.named (found-each d.numbers.entries rise)

-- the numbers are those of beans
numbers-within : (ids : List BeanId) (n : ℕ) (es : List (List ℕ × ℕ)) (ns : List (List ℕ × BeanId)) → length ids ≡ n
    → AllZip (IsNumbered ids) es ns → AllByRecursion (λ p. p < n) (values_of es)
numbers-within ids n [] ns long h = tt
numbers-within ids n (e ∷ es) [] long h = absurd h
numbers-within ids n (e ∷ es) (m ∷ ns) long h =
    (omega (arith, long, slice_get_within ids e.1 m.1 h.0.1), numbers-within ids n es ns long h.1)

pub all-within : (entries : List (List ℕ × BeanId)) (d : Dependents) → AreNumbered entries d
    → AllByRecursion (λ p. p < length d.ids) (values_of d.numbers.entries)
all-within entries d numbered = numbers-within d.ids (length d.ids) d.numbers.entries entries refl numbered.named

-- where no bean is dependent, none needs itself
pub no_circles : (ds : List Decl) (d : Dependents) → AreNumbered (dependents_by_text (beans ds)) d → length d.ids ≡ 0
    → circles ds ≡ []
unfolding circular
no_circles ds d numbered empty = none d.numbers.entries (dependents_by_text (beans ds)) numbered.named
  where
    none : (es : List (List ℕ × ℕ)) (ns : List (List ℕ × BeanId)) → AllZip (IsNumbered d.ids) es ns
        → map circle (map (λ n. n.1) (filter (λ n. needs_itself ds n.0) ns)) ≡ []
    none [] [] h = refl
    none [] (n ∷ ns) h = absurd h
    none (e ∷ es) [] h = absurd h
    none (e ∷ es) (n ∷ ns) h = absurd (omega (arith, empty, slice_get_within d.ids e.1 n.1 h.0.1))
