-- The text of a use of a qualifier.
use Rattle.std.specs.Prelude.{ℕ, ℤ, List, [], ◌∷◌, ◌++◌}
use Rattle.std.specs.Fmt.{signed_decimal}
use Rattle.cdi_model.specs.Bytes.{closing, comma, equals_sign, opening}
use Rattle.cdi_model.specs.declared.quals.Arguments.{Arguments}
use Rattle.cdi_model.specs.declared.quals.Arguments.TheVariants as arguments
use Rattle.cdi_model.specs.declared.quals.Qual.{Qual}

-- m=v
abbrev pub text_of_pair : List ℕ × ℤ → List ℕ
text_of_pair pair = pair.0 ++ equals_sign ∷ signed_decimal pair.1

-- m=v,m=v
abbrev pub text_of_pairs : List (List ℕ × ℤ) → List ℕ
text_of_pairs [] = []
text_of_pairs (p ∷ []) = text_of_pair p
text_of_pairs (p ∷ q ∷ ps) = text_of_pair p ++ comma ∷ text_of_pairs (q ∷ ps)

-- what stands behind the name of a use: its members in brackets, if it writes some
abbrev pub text_of_arguments : Arguments → List ℕ
text_of_arguments (arguments.Name name) = opening ∷ name ++ closing ∷ []
text_of_arguments (arguments.Members []) = []
text_of_arguments (arguments.Members (p ∷ ps)) = opening ∷ text_of_pairs (p ∷ ps) ++ closing ∷ []

abbrev pub text_of_use : Qual → List ℕ
text_of_use u = u.name ++ text_of_arguments u.arguments
