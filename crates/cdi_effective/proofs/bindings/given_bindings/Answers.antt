use Rattle.cdi_effective.proofs.Common.{List, ap, ◌∙◌, Bor, option_to_list, find_stereotype, Qual, uses_in, stereotype_bindings, arith}
use Rattle.cdi_effective.proofs.Common.{◌++◌, common_steps, flat_map}
use Rattle.cdi_effective.proofs.BindingLemmas.{given_by_stereotypes}
use Rattle.cdi_effective.proofs.bindings.given_bindings.Goals as goal

pub loop-name-init : goal.loop-name-init
loop-name-init c =
    let names = c.into_iter-name-iterator.result.rest.items in
    ap (λ (list : List (Bor Qual)). uses_in list
    ++ stereotype_bindings (flat_map (λ s. option_to_list (find_stereotype s c.args.decls.now)) names)) c.new-list.ensures.items
    ∙ given_by_stereotypes c.args.decls.now c.args.declared.now names (grind (arith, common_steps))
