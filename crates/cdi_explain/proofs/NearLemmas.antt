-- The nearest of some names is near, and none is nearer.
use Rattle.std.proofs.Common.{◌≡◌, ℕ, nat_lt, Bool, true, false, ◌||◌, List, [], ◌∷◌, fold, Option, Some, None, IfSome, if◌then◌else◌, refl}
use Rattle.std.proofs.Common.{ap, ◌∙◌, arith}
use Rattle.std.specs.{List.AllByRecursion, Str.bytes_eq}
use Rattle.std.proofs.lemmas.List.Elements.{All-from_recursion}
use Rattle.base_numbers.proofs.Texts.{same_text}
use Rattle.cdi_match.specs.Chain.{has}
use Rattle.cdi_explain.specs.Near.{distance, is_near, is_nearer, nearer, nearest, IsFound, NearestIsNear}
use Rattle.cdi_explain.specs.declared.near.Near.{Near}

-- ---- none is nearer

-- what is not nearer than one is not nearer than one that is nearer yet
closer : (wanted : List ℕ) (best : Option Near) (taken d : ℕ) → is_nearer wanted best taken ≡ true → is_nearer wanted best d ≡ false
    → nat_lt d taken ≡ false
closer wanted None taken d near far = grind arith
closer wanted (Some best) taken d near far = grind arith

with_one : List ℕ → Option Near → List ℕ → Bool → Option Near
with_one wanted best name b = if b then Some (record { name = name; distance = distance wanted name }) else best

stays_one : (wanted : List ℕ) (best : Option Near) (name : List ℕ) (d : ℕ) → is_nearer wanted best d ≡ false
    → is_nearer wanted (nearer wanted best name) d ≡ false
unfolding with_one
stays_one wanted best name d far = grind (arith, with_one, closer)

stays : (wanted : List ℕ) (names : List (List ℕ)) (best : Option Near) (d : ℕ) → is_nearer wanted best d ≡ false
    → is_nearer wanted (fold (nearer wanted) best names) d ≡ false
stays wanted [] best d far = far
stays wanted (x ∷ xs) best d far = stays wanted xs (nearer wanted best x) d (stays_one wanted best x d far)

not_below_itself : (d : ℕ) → nat_lt d d ≡ false
not_below_itself d = grind arith

passed : (wanted : List ℕ) (best : Option Near) (name : List ℕ) → is_nearer wanted (nearer wanted best name) (distance wanted name) ≡ false
unfolding with_one
passed wanted best name = grind (arith, with_one, not_below_itself)

none_nearer : (wanted : List ℕ) (names : List (List ℕ)) (best : Option Near)
    → AllByRecursion (λ name. is_nearer wanted (fold (nearer wanted) best names) (distance wanted name) ≡ false) names
none_nearer wanted [] best = tt
none_nearer wanted (x ∷ xs) best =
    (stays wanted xs (nearer wanted best x) (distance wanted x) (passed wanted best x), none_nearer wanted xs (nearer wanted best x))

-- ---- it is one of them, and near

-- nearer than one that is near
nearer_is_near : (wanted : List ℕ) (d taken : ℕ) → is_near wanted d ≡ true → nat_lt taken d ≡ true → is_near wanted taken ≡ true
nearer_is_near wanted d taken near less = grind arith

near_then : (wanted : List ℕ) (names : List (List ℕ)) (best : Option Near) (d : ℕ) → IfSome best (IsFound wanted names)
    → is_nearer wanted best d ≡ true → is_near wanted d ≡ true
near_then wanted names None d found is = is
near_then wanted names (Some best) d found is = nearer_is_near wanted best.distance d found.close is

found_one : (wanted : List ℕ) (names : List (List ℕ)) (best : Option Near) (name : List ℕ) → has names name ≡ true
    → IfSome best (IsFound wanted names) → IfSome (nearer wanted best name) (IsFound wanted names)
unfolding with_one
found_one wanted names best name there found = grind (arith, with_one, near_then)

or_true : (b : Bool) → (b || true) ≡ true
or_true b = grind arith

found_all : (wanted : List ℕ) (all names : List (List ℕ)) (best : Option Near)
    → ((name : List ℕ) → has names name ≡ true → has all name ≡ true) → IfSome best (IsFound wanted all)
    → IfSome (fold (nearer wanted) best names) (IsFound wanted all)
found_all wanted all [] best within found = found
found_all wanted all (x ∷ xs) best within found =
    found_all wanted all xs (nearer wanted best x) (λ name is. within name (ap (λ b. bytes_eq x name || b) is ∙ or_true (bytes_eq x name)))
    (found_one wanted all best x (within x (ap (λ b. b || has xs x) (same_text x x refl))) found)

pub nearest_is_near : NearestIsNear
nearest_is_near wanted names = record {
  found = found_all wanted names names None (λ name is. is) tt;
  least = All-from_recursion (λ name. is_nearer wanted (nearest wanted names) (distance wanted name) ≡ false) names
      (none_nearer wanted names None);
}
