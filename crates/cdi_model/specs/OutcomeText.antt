-- The texts of values and failures.
use Rattle.std.specs.Prelude.{ℕ, List, [], ◌∷◌, ◌++◌, codes}
use Rattle.std.specs.Fmt.{decimal, signed_decimal}
use Rattle.cdi_model.specs.Bytes.{closing}
use Rattle.cdi_model.specs.declared.outcome.Val.{Val}
use Rattle.cdi_model.specs.declared.outcome.Val.TheVariants.{Null, Int}
use Rattle.cdi_model.specs.declared.outcome.Failure.{Failure}
use Rattle.cdi_model.specs.declared.outcome.Failure.TheVariants.{NotActive, Creating, Depth, Steps, Budget}
use Rattle.cdi_model.specs.declared.outcome.Failure.TheVariants.{IllegalProduct, NotConstructed, Limit, User}
use Rattle.cdi_model.specs.declared.outcome.Outcome.{Outcome}
use Rattle.cdi_model.specs.declared.outcome.Outcome.TheVariants.{Value, Failed}

-- null, or the whole number
abbrev pub text_of_val : Val → List ℕ
text_of_val Null = codes "null"
text_of_val (Int n) = signed_decimal n

-- the word of the failure, for that of a body with its number in brackets
abbrev pub text_of_failure : Failure → List ℕ
text_of_failure NotActive = codes "NotActive"
text_of_failure Creating = codes "Creating"
text_of_failure Depth = codes "Depth"
text_of_failure Steps = codes "Steps"
text_of_failure Budget = codes "Budget"
text_of_failure IllegalProduct = codes "IllegalProduct"
text_of_failure NotConstructed = codes "NotConstructed"
text_of_failure Limit = codes "Limit"
text_of_failure (User n) = codes "User(" ++ decimal n ++ closing ∷ []

-- a value, or why there is none
abbrev pub words_of_outcome : Outcome → List ℕ
words_of_outcome (Value v) = codes "value " ++ text_of_val v
words_of_outcome (Failed failure) = codes "failed " ++ text_of_failure failure
