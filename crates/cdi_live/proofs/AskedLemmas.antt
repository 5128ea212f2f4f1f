-- Which choices are wanted: those for which a declaration asks.
use Rattle.cdi_live.proofs.Common.{any-same, ◌≡◌, Bool, true, List, [], ◌∷◌, refl, sym, ap, ◌∙◌, inl}
use Rattle.cdi_live.proofs.Common.{inr, list_any, false≢true, or_cases, or_left, or_right, Decl, Qual, ℕ, flat_map}
use Rattle.cdi_live.proofs.Common.{list_any-append, DeclKey}
use Rattle.cdi_live.proofs.Common.{is_among, mentions, Mention, PointOf}
use Rattle.cdi_live.proofs.Common.{key_exact, asks_for, asks_in, ChoiceKey, is_wanted, key_of_point, points_of}
use Rattle.cdi_live.proofs.Common.{arith, same_key}
use Rattle.cdi_index.specs.declared.asked.Question.TheVariants as questions
use Rattle.cdi_observe.specs.Keys.{same_key as same_question}
use Rattle.cdi_observe.proofs.WantedLemmas.{wanted_stand_once}
use Rattle.cdi_observe.specs.Wanted.{is_wanted_choice, point_named}

pub any-elim : {X B : Type 0} (p : X → Bool) (xs : List X) → list_any p xs ≡ true → ((x : X) → p x ≡ true → B) → B
any-elim {B = B} p [] e f = absurd (false≢true e)
any-elim {B = B} p (x ∷ xs) e f = elim (or_cases (p x) (list_any p xs) e) [
  | inl here ↦ f x here
  | inr there ↦ any-elim p xs there f
]

-- a test that is true of a key is true of one among keys that have it
pub any-among : (p : DeclKey → Bool) (keys : List DeclKey) (k : DeclKey) → is_among keys k ≡ true → p k ≡ true → list_any p keys ≡ true
any-among p [] k among h = absurd (false≢true among)
any-among p (l ∷ keys) k among h = elim (or_cases (same_key l k) (is_among keys k) among) [
  | inl here ↦ or_left (p l) (list_any p keys) (ap p (key_exact l k here) ∙ h)
  | inr there ↦ or_right (p l) (list_any p keys) (any-among p keys k there h)
]

module _ (t : List ℕ) (us : List Qual) where
  -- a declaration asks where a point of it does
  at-point : (m : Mention) → list_any (λ point. same_question (ChoiceKey t us) (key_of_point point)) (point_named m)
      ≡ asks_in questions.Choice t us m
  at-point (PointOf place point) = grind arith
  at-point other = refl

  at-points : (ms : List Mention)
      → list_any (λ point. same_question (ChoiceKey t us) (key_of_point point)) (flat_map point_named ms)
      ≡ list_any (asks_in questions.Choice t us) ms
  at-points [] = refl
  at-points (m ∷ ms) = grind (arith, at-points ms, list_any-append, at-point)

  asks-is : (d : Decl) → list_any (λ point. same_question (ChoiceKey t us) (key_of_point point)) (points_of d)
      ≡ asks_for questions.Choice t us d
  unfolding asks_for
  asks-is d = at-points (mentions d)

  -- the choice is wanted where a declaration asks for it
  pub wanted-is : (ds : List Decl) → is_wanted ds (ChoiceKey t us) ≡ list_any (asks_for questions.Choice t us) ds
  unfolding is_wanted_choice
  wanted-is ds =
      sym ((wanted_stand_once ds).within (ChoiceKey t us))
      ∙ any-same (λ d. list_any (λ point. same_question (ChoiceKey t us) (key_of_point point)) (points_of d))
      (asks_for questions.Choice t us) ds asks-is
