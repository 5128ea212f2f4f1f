-- Live instances, with names in place of positions.
use Rattle.std.specs.Prelude.{ℕ, List, [], map, Option, Some, None, option_map}
use Rattle.cdi_contexts.specs.declared.instance.Instance.{Instance}
use Rattle.cdi_effective.specs.declared.records.BeanId.{BeanId}
use Rattle.cdi_staging.specs.declared.names.Names.{Names}
use Rattle.cdi_trace.specs.Names.{bean_told, text_of_instance}
use Rattle.cdi_trace.specs.declared.instances.NamedInstance.{NamedInstance}

-- an instance, and the names by which it is read
pub record Shown : Type 0 where
  pub names : Names
  pub instance : Instance

abbrev pub shown : NamedInstance → Shown
shown i = record { names = i.names.now; instance = i.instance }

-- the instances by these names, where there are some
abbrev pub all_shown : Option Names → List Instance → List Shown
all_shown None live = []
all_shown (Some names) live = map (λ instance. record { names = names; instance = instance }) live

abbrev pub bean_of_instance : Shown → Option BeanId
bean_of_instance i = option_map (λ x. x.id) (bean_told i.names i.instance.id.bean)

abbrev pub text_of_shown : Shown → List ℕ
text_of_shown i = text_of_instance i.names i.instance.id.bean i.instance.id.number
