-- The texts of the places of a bean, and of those at which stored bodies run.
use Rattle.std.specs.Prelude.{ℕ, List, ◌∷◌, ◌++◌, codes}
use Rattle.cdi_model.specs.Bytes.{space}
use Rattle.cdi_model.specs.declared.place.BeanPlace.{BeanPlace}
use Rattle.cdi_model.specs.declared.place.BeanPlace.TheVariants as places
use Rattle.cdi_model.specs.declared.place.PartPlace.{PartPlace}
use Rattle.cdi_model.specs.declared.place.PartPlace.TheVariants as parts

abbrev pub text_of_place : BeanPlace → List ℕ
text_of_place places.Construct = codes "construct"
text_of_place places.Post = codes "post"
text_of_place places.Pre = codes "pre"
text_of_place (places.Method name) = codes "method" ++ space ∷ name
text_of_place (places.Producer name) = codes "producer" ++ space ∷ name
text_of_place (places.Observer name) = codes "observer" ++ space ∷ name

-- where a body runs
abbrev pub text_of_part_place : PartPlace → List ℕ
text_of_part_place parts.Construct = codes "construct"
text_of_part_place parts.Post = codes "post"
text_of_part_place parts.Pre = codes "pre"
text_of_part_place (parts.Method name) = codes "method" ++ space ∷ name
text_of_part_place (parts.Producer name) = codes "producer" ++ space ∷ name
text_of_part_place (parts.StaticProducer name) = codes "producer" ++ space ∷ name
text_of_part_place (parts.Disposer name) = codes "disposer" ++ space ∷ name
text_of_part_place (parts.Observer name) = codes "observer" ++ space ∷ name
text_of_part_place parts.AroundInvoke = codes "around_invoke"
text_of_part_place parts.AroundConstruct = codes "around_construct"
