use Rattle.cdi_match.proofs.Common.{arith, ◌≡◌, ℕ, List, map, ap, ◌∙◌, common_steps, name_of_use, brings_type, uses_in, has}
use Rattle.cdi_match.proofs.BindingLemmas.{types_brought-is}
use Rattle.cdi_match.proofs.SearchLemmas.{led_to-binding}
use Rattle.cdi_match.proofs.bindings.types_brought.Goals as goal

-- what the list has
types_found : (c : goal.After-drop-names-2) → (b : List ℕ)
    → has c.each_once.result.items b ≡ brings_type c.args.decls.now (map name_of_use (uses_in c.args.uses.now)) b
types_found c b = c.each_once.ensures.names b ∙ c.in_ok-found.ensures b
    ∙ led_to-binding c.args.decls.now _ b ∙ ap (λ types. brings_type c.args.decls.now types b) (grind (arith, common_steps))

pub returns : goal.returns
returns c = types_brought-is c.args.decls.now (map name_of_use (uses_in c.args.uses.now)) c.each_once.result.items c.each_once.ensures.order
    (types_found c)
