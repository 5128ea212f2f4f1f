use Rattle.cdi_effective.proofs.Common.{◌≡◌, option_to_list, find_stereotype, stereotype_decls, uses_in, stereotype_bindings, ◌++◌}
use Rattle.cdi_effective.proofs.Common.{flat_map}
use Rattle.cdi_effective.proofs.bindings.given_bindings.Given as goal

abbrev pub invariant-loop-name : goal.invariant-loop-name
invariant-loop-name l =
    uses_in l.list.items ++ stereotype_bindings (flat_map (λ s. option_to_list (find_stereotype s l.decls)) l.name-iterator.rest.items)
    ≡ stereotype_bindings (stereotype_decls l.decls l.declared)
