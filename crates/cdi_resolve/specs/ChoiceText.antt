-- The text of a choice.
use Rattle.std.specs.Prelude.{ℕ, List, ◌∷◌, ◌++◌, codes, flat_map}
use Rattle.cdi_model.specs.Bytes.{space}
use Rattle.cdi_effective.specs.BeanText.{text_of_id}
use Rattle.cdi_effective.specs.declared.records.BeanId.{BeanId}
use Rattle.cdi_resolve.specs.declared.choice.Choice.{Choice}
use Rattle.cdi_resolve.specs.declared.choice.Choice.TheVariants.{One, Unsatisfied, Ambiguous}

-- each bean after a space
abbrev pub text_of_ids : List BeanId → List ℕ
text_of_ids ids = flat_map (λ id. space ∷ text_of_id id) ids

abbrev pub text_of_choice : Choice → List ℕ
text_of_choice (One id) = codes "one " ++ text_of_id id
text_of_choice Unsatisfied = codes "unsatisfied"
text_of_choice (Ambiguous ids) = codes "ambiguous" ++ text_of_ids ids
