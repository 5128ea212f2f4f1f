-- Names and words that are put together.
use Rattle.cdi_live.proofs.Common.{[], ◌&&◌, ◌++◌, ◌||◌, ◌∷◌, ◌≡◌, Bool, Decl, List, bytes_eq, false≢true, filter, flat_map, holds}
use Rattle.cdi_live.proofs.Common.{list_any, list_any-append, true, ℕ, arith}

pub holds-append : (xs ys : List (List ℕ)) (t : List ℕ) → holds (xs ++ ys) t ≡ (holds xs t || holds ys t)
holds-append xs ys t = list_any-append (λ n. bytes_eq n t) xs ys

-- those of declarations that pass a test
pub of-passing : (f : Decl → List (List ℕ)) (test : Decl → Bool) (t : List ℕ) (ds : List Decl)
    → list_any (λ d. test d && holds (f d) t) ds ≡ true → holds (flat_map f (filter test ds)) t ≡ true
of-passing f test t [] h = absurd (false≢true h)
of-passing f test t (d ∷ ds) h = grind (arith, of-passing f test t ds, holds-append)
