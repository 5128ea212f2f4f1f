-- Which qualifiers a bean has.
use Rattle.cdi_effective.proofs.Common.{◌≡◌, ℕ, List, [], ◌∷◌, refl, Option, Some, None, ◌++◌, in_text_order, built_in_of, qualifiers_of}
use Rattle.cdi_effective.proofs.UseLemmas.{are_in_text_order}
use Rattle.cdi_effective.specs.Qualifiers.{any_use, default_use, named_by, QualifiersAreThese}

pub qualifiers_are_these : QualifiersAreThese
qualifiers_are_these declared last name = are_in_text_order (built_in_of last name ++ declared)

-- those that are built in stand in order
pub built-in-order : (name : Option (List ℕ)) → any_use ∷ default_use ∷ named_by name ≡ qualifiers_of [] [] name
unfolding in_text_order
built-in-order None = refl
built-in-order (Some n) = refl
