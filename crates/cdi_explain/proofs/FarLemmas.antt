-- Names are not near whose characters are too many of one class.
use Rattle.std.proofs.Common.{◌≡◌, ℕ, ◌+◌, ◌<◌, true, false, List, [], ◌∷◌, ◌++◌, Option, None, Some, IfSome, length, length-append, get_or}
use Rattle.std.proofs.Common.{count_by, inl, inr, ap, ◌∙◌, arith}
use Rattle.std.specs.Str.{chars}
use Rattle.std.proofs.lemmas.{Bool.cases_lt, List.get_or_append_left, List.get_or-append-add}
use Rattle.cdi_explain.proofs.CountLemmas.{counts-apart}
use Rattle.cdi_explain.specs.Near.{distance, is_near, is_nearer, nearer}
use Rattle.cdi_explain.specs.{declared.near.Near.Near, Counts.is_of_class, Counts.AreApart, Counts.AreCounted}

-- one more count
pub counted-more : (name counts : List ℕ) (n : ℕ) → AreCounted name counts → n ≡ count_by (is_of_class (length counts)) (chars name)
    → AreCounted name (counts ++ n ∷ [])
counted-more name counts n counted is class within = elim (cases_lt class (length counts)) [
  | inl before ↦ get_or_append_left counts (n ∷ []) 0 class before ∙ counted class before
  | inr not_before ↦
      let last : class ≡ length counts + 0 = omega (arith, within, not_before, length-append counts (n ∷ [])) in
      ap (λ k. get_or (counts ++ n ∷ []) k 0) last ∙ get_or-append-add counts (n ∷ []) 0 0 ∙ is
      ∙ ap (λ k. count_by (is_of_class k) (chars name)) (omega (arith, last))
]

pub far-apart : (wanted name counts others : List ℕ) → AreCounted wanted counts → AreCounted name others → AreApart counts others
    → 2 < distance wanted name
far-apart wanted name counts others counted told apart = grind (arith, apart.0, apart.1, apart.2, apart.3, counts-apart)

not-near : (wanted : List ℕ) (best : Option Near) (d : ℕ) → IfSome best (λ near. is_near wanted near.distance ≡ true) → 2 < d
    → is_nearer wanted best d ≡ false
not-near wanted None d near far = grind arith
not-near wanted (Some best) d near far = grind (arith, best.distance)

-- such a name is not the nearest
pub stays-nearest : (wanted name : List ℕ) (best : Option Near) → IfSome best (λ near. is_near wanted near.distance ≡ true)
    → 2 < distance wanted name → best ≡ nearer wanted best name
stays-nearest wanted name best near far = grind (arith, not-near)
