use Rattle.cdi_ways.proofs.Common.{◌≡◌, Some, ap, sym, ◌∙◌, arith, slice_get, same_Some, slice_get_cases}
use Rattle.std.proofs.Common.{rules}
use denote.Enum.Bare.{same_true, true_same}
use Rattle.cdi_ways.specs.contracts.states.State.{the_type}
use Rattle.cdi_ways.proofs.states.States.is.Goals as goal

pub returns-in-Some : goal.returns-in-Some
returns-in-Some c =
    let node = c.args.node in
    let known : slice_get c.args.self.now.each.items node ≡ Some c.in-Some.known.now =
    grind (arith, slice_get_cases c.args.self.now.each.items node, c.in-Some.ensures.lookup.3.0, c.in-Some.ensures.lookup.1) in (
      λ is. known ∙ ap Some (same_true the_type (search rules) _ _ (sym c.eq.ensures ∙ is)),
      λ was. c.eq.ensures ∙ true_same the_type _ _ (same_Some _ _ (sym known ∙ was)),
    )

pub returns-in-None : goal.returns-in-None
returns-in-None c = grind (arith, slice_get_cases c.args.self.now.each.items c.args.node, c.in-None.ensures.lookup.3)
