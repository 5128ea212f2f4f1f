-- The text of what a bean is told by.
use Rattle.std.specs.Prelude.{ℕ, List, [], ◌∷◌, ◌++◌, Option, Some, None}
use Rattle.cdi_model.specs.Bytes.{slash}
use Rattle.cdi_effective.specs.declared.records.BeanId.{BeanId}

-- the producer method behind a slash
abbrev pub text_of_producer : Option (List ℕ) → List ℕ
text_of_producer None = []
text_of_producer (Some name) = slash ∷ name

-- the class, and then the producer method if there is one
abbrev pub text_of_id : BeanId → List ℕ
text_of_id id = id.class ++ text_of_producer id.producer
