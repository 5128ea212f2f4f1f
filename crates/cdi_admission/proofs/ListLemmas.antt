-- Lists of names that are kept, and as they are seen.
use Rattle.std.proofs.Common.{arith, ◌≡◌, ℕ, List, [], ◌∷◌, map, Bor, refl}
use Rattle.std.proofs.lemmas.List.{length-map}
use Rattle.std.specs.{List.list_any, declared.alloc.Global.Global, declared.vec.Vec.Vec}
use Rattle.cdi_admission.specs.Admission.{is_long}

-- the lists of which one is long
pub long-view : (lists : List (Vec (Bor (List ℕ)) Global))
    → list_any is_long (map (λ names. map (λ n. n.now) names.items) lists) ≡ list_any (λ names. is_long names.items) lists
long-view [] = refl
long-view (names ∷ lists) = grind (arith, long-view lists, names.items, length-map)
