-- The only place at which a word stands, and the line feeds before a place.
use Rattle.cdi_text.proofs.Common.{◌≡◌, ℕ, suc, ◌+◌, ◌-◌, ◌<◌, Bool, true, false, List, [], ◌∷◌, ◌++◌, Option, Some, None, is_some, refl}
use Rattle.cdi_text.proofs.Common.{ap, ◌∙◌, arith, false≢true, filter, range_with_len}
use Rattle.cdi_text.specs.KeyLines.{only}

-- the places found so far
abbrev pub so_far : Option ℕ → List ℕ
so_far None = []
so_far (Some place) = place ∷ []

-- the first of the places that are left
pub next_place : (place count : ℕ) → place < count
    → range_with_len place (count - place) ≡ place ∷ range_with_len (place + 1) (count - (place + 1))
next_place place count h = let e : count - place ≡ suc (count - (place + 1)) = omega arith in rw e refl

pub no_place : (test : ℕ → Bool) (place count : ℕ) → place < count → test place ≡ false
    → filter test (range_with_len place (count - place)) ≡ filter test (range_with_len (place + 1) (count - (place + 1)))
no_place test place count h e = ap (filter test) (next_place place count h) ∙ rw e refl

pub one_place : (test : ℕ → Bool) (place count : ℕ) → place < count → test place ≡ true
    → filter test (range_with_len place (count - place)) ≡ place ∷ filter test (range_with_len (place + 1) (count - (place + 1)))
one_place test place count h e = ap (filter test) (next_place place count h) ∙ rw e refl

-- the places found so far are all that there are
pub all_found : (found : Option ℕ) → found ≡ only (so_far found)
all_found None = refl
all_found (Some place) = refl

pub all_found_at : (found : Option ℕ) (places : List ℕ) → so_far found ≡ places → found ≡ only places
all_found_at found places e = all_found found ∙ ap only e

-- there is no only one where two are found
pub two_found : (found : Option ℕ) (place : ℕ) (rest places : List ℕ) → is_some found ≡ true → so_far found ++ (place ∷ rest) ≡ places
    → None ≡ only places
two_found None place rest places h e = absurd (false≢true h)
two_found (Some first) place rest places h e = ap only e
