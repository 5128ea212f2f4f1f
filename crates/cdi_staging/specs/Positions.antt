-- Where beans stand in a bean list.
use Rattle.std.specs.Prelude.{◌≡◌, ℕ, Bool, ◌&&◌, List, position}
use Rattle.std.specs.Option.{option_eq}
use Rattle.std.specs.Str.{bytes_eq}
use Rattle.indexmap.specs.IndexMap.{IndexMap, get}
use Rattle.cdi_effective.specs.declared.records.BeanId.{BeanId}
use Rattle.cdi_effective.specs.declared.records.Effective.{Effective}

-- two ids have one class, and one producer or none
abbrev pub same_id : BeanId → BeanId → Bool
same_id i j = bytes_eq i.class j.class && option_eq bytes_eq i.producer j.producer

-- an id tells a bean that has it
abbrev pub is_told_by : BeanId → Effective → Bool
is_told_by id bean = same_id bean.id id

-- each id has the position of the first bean that it tells
abbrev pub ArePlaces : {S : Type 0} → List Effective → IndexMap BeanId ℕ S → Type 0
ArePlaces beans places = (id : BeanId) → get same_id places id ≡ position (is_told_by id) beans
