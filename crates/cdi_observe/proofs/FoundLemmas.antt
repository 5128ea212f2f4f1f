-- Declarations that are found by their kinds and names.
use Rattle.cdi_observe.proofs.Common.{◌≡◌, Bool, true, List, [], ◌∷◌, map, Some, get_or, sym, AllByRecursion, list_any, recursion_from_All}
use Rattle.cdi_observe.proofs.Common.{slice_get-get_or, find_decl, AreDistinct, Decl, own-found, All-from_recursion, subst, All, kind_of}
use Rattle.cdi_observe.proofs.Common.{name_of_decl, arith}
use Rattle.std.proofs.Common.{None}

-- a declaration that is found by its kind and name
abbrev pub IsFound : List Decl → Decl → Type 0
IsFound ds d = find_decl (kind_of d) (name_of_decl d) ds ≡ Some d

-- declarations that are lent
mapped : {P : Type 0} (value : P → Decl) (ds : List Decl) (ps : List P) → AllByRecursion (λ p. IsFound ds (value p)) ps
    → AllByRecursion (IsFound ds) (map value ps)
mapped value ds [] all = tt
mapped value ds (p ∷ ps) all = (all.0, mapped value ds ps all.1)

pub each-lent : {P : Type 0} (value : P → Decl) (ds : List Decl) (ps : List P) → All (λ p. IsFound ds (value p)) ps
    → AllByRecursion (IsFound ds) (map value ps)
each-lent value ds ps all = mapped value ds ps (recursion_from_All (λ p. IsFound ds (value p)) ps all)

-- what passes a test is one that does
pub found-any : (f : Decl → Bool) (ds : List Decl) (d : Decl) → IsFound ds d → f d ≡ true → list_any f ds ≡ true
found-any f [] d found passes = absurd (let no : None ≡ Some d = found in cc)
found-any f (e ∷ ds) d found passes = grind (arith, found-any f ds d)

-- each of declarations without two of one key is found
pub each-found : (ds : List Decl) → AreDistinct ds → AllByRecursion (IsFound ds) ds
each-found ds distinct = recursion_from_All (IsFound ds) ds (λ i d lt. own-found ds i (get_or ds i d) distinct (slice_get-get_or ds i d lt))

-- what holds of each of some declarations holds of each that is lent of them
pub all-lent : {P D : Type 0} (Q : D → Type 0) (value : P → D) (ps : List P) (ds : List D) → map value ps ≡ ds → AllByRecursion Q ds
    → All (λ p. Q (value p)) ps
all-lent {P = P} Q value ps ds are all = All-from_recursion (λ p. Q (value p)) ps (by ps (subst (AllByRecursion Q) (sym are) all))
  where
    by : (xs : List P) → AllByRecursion Q (map value xs) → AllByRecursion (λ p. Q (value p)) xs
    by [] all = tt
    by (x ∷ xs) all = (all.0, by xs all.1)
