-- What holds at each point of a trace, where one more entry comes.
use Rattle.cdi_legal.proofs.Common.{◌≡◌, refl, Entry, List, [], ◌∷◌, subst, ◌++◌, AtEachEntry, AtEachPoint}

head_of : (x y : Entry) (xs ys : List Entry) → x ∷ xs ≡ y ∷ ys → x ≡ y
head_of x y xs ys h = cc

rest_of : (x y : Entry) (xs ys : List Entry) → x ∷ xs ≡ y ∷ ys → xs ≡ ys
rest_of x y xs ys h = cc

pub point_more : (P : List Entry → Type 0) (trace : List Entry) (e : Entry) → AtEachPoint P trace → P (trace ++ e ∷ [])
    → AtEachPoint P (trace ++ e ∷ [])
point_more P trace e each last [] later is = each [] trace refl
point_more P [] e each last (x ∷ []) later is = subst (λ (y : Entry). P (y ∷ [])) (head_of e x [] later is) last
point_more P [] e each last (x ∷ y ∷ earlier) later is =
    let h : [] ≡ y ∷ (earlier ++ later) = rest_of e x [] (y ∷ (earlier ++ later)) is in cc
point_more P (z ∷ trace) e each last (x ∷ earlier) later is =
    subst (λ (y : Entry). P (y ∷ earlier)) (head_of z x (trace ++ e ∷ []) (earlier ++ later) is)
    (point_more (λ es. P (z ∷ es)) trace e shifted last earlier later (rest_of z x (trace ++ e ∷ []) (earlier ++ later) is))
  where
    shifted : AtEachPoint (λ es. P (z ∷ es)) trace
    shifted first later is = each (z ∷ first) later (subst (λ (es : List Entry). z ∷ trace ≡ z ∷ es) is refl)

pub entry_more : (P : List Entry → Entry → Type 0) (trace : List Entry) (e : Entry) → AtEachEntry P trace → P trace e
    → AtEachEntry P (trace ++ e ∷ [])
entry_more P [] e each last [] entry later is = subst (λ (y : Entry). P [] y) (head_of e entry [] later is) last
entry_more P [] e each last (x ∷ []) entry later is = let h : [] ≡ entry ∷ later = rest_of e x [] (entry ∷ later) is in cc
entry_more P [] e each last (x ∷ y ∷ earlier) entry later is =
    let h : [] ≡ y ∷ (earlier ++ entry ∷ later) = rest_of e x [] (y ∷ (earlier ++ entry ∷ later)) is in cc
entry_more P (z ∷ trace) e each last [] entry later is =
    subst (λ (y : Entry). P [] y) (head_of z entry (trace ++ e ∷ []) later is) (each [] z trace refl)
entry_more P (z ∷ trace) e each last (x ∷ earlier) entry later is =
    subst (λ (y : Entry). P (y ∷ earlier) entry) (head_of z x (trace ++ e ∷ []) (earlier ++ entry ∷ later) is)
    (entry_more (λ es. P (z ∷ es)) trace e shifted last earlier entry later (rest_of z x (trace ++ e ∷ []) (earlier ++ entry ∷ later) is))
  where
    shifted : AtEachEntry (λ es. P (z ∷ es)) trace
    shifted first next later is = each (z ∷ first) next later (subst (λ (es : List Entry). z ∷ trace ≡ z ∷ es) is refl)
