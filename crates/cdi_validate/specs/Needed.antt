-- The edges that are drawn of what beans need, between the numbers of the dependent beans.
use Rattle.std.specs.Prelude.{◌≡◌, ◌<◌, ℕ, List, [], Bool, map, length, Option, Some, slice_get, if◌then◌else◌}
use Rattle.std.specs.BTreeMap.{get, BTreeMap}
use Rattle.std.specs.List.{flat_map, AllZip}
use Rattle.std.specs.Option.{option_to_list}
use Rattle.cdi_effective.specs.declared.records.BeanId.{BeanId}
use Rattle.cdi_faults.specs.declared.fault.Fault.{Fault}
use Rattle.cdi_model.specs.Bytes.{byte_order}
use Rattle.cdi_ways.specs.declared.edge.Edge.{Edge}
use Rattle.cdi_validate.specs.Circles.{Need}
use Rattle.cdi_validate.specs.Faults.{circle}
use Rattle.cdi_validate.specs.Linked.{is_marked}
use Rattle.cdi_validate.specs.declared.circles.Dependents.{Dependents}

abbrev pub bean_id : List ℕ → Option (List ℕ) → BeanId
bean_id class producer = record { class = class; producer = producer }

-- numbers of beans, by the texts of their ids
abbrev pub Numbers : Type 0
Numbers = BTreeMap (List ℕ) ℕ

-- the numbers of those of some beans that have one
abbrev pub numbers_of : Numbers → List (List ℕ) → List ℕ
numbers_of numbers texts = flat_map (λ text. option_to_list (get byte_order numbers text)) texts

abbrev pub edge : ℕ → ℕ → Edge
edge p q = record { from = p; to = q }

-- the edges from a bean to those that it needs
abbrev pub edges_by : Numbers → Need → List Edge
edges_by numbers need = flat_map (λ p. map (edge p) (numbers_of numbers need.1)) (option_to_list (get byte_order numbers need.0))

abbrev pub edges_of : Numbers → List Need → List Edge
edges_of numbers all = flat_map (edges_by numbers) all

-- a number and a bean have the same text, and the bean is found by the number
abbrev pub IsNumbered : List BeanId → List ℕ × ℕ → List ℕ × BeanId → Type 0
IsNumbered ids e n = (e.0 ≡ n.0) × (slice_get ids e.1 ≡ Some n.1)

-- the beans at some texts have numbers, no two the same, and each bean is found by its number
pub record AreNumbered (entries : List (List ℕ × BeanId)) (d : Dependents) : Type 0 where
  pub named : AllZip (IsNumbered d.ids) d.numbers.entries entries
  pub within : (x : List ℕ) (p : ℕ) → get byte_order d.numbers x ≡ Some p → p < length d.ids
  pub apart : (x y : List ℕ) (p : ℕ) → get byte_order d.numbers x ≡ Some p → get byte_order d.numbers y ≡ Some p → x ≡ y

-- the fault of the bean with a number, where it is marked
abbrev pub circle_at : List BeanId → List Bool → ℕ → List Fault
circle_at ids marks p = if is_marked marks p then map circle (option_to_list (slice_get ids p)) else []
