use Rattle.cdi_match.proofs.Common.{◌≡◌, ◌++◌, flat_map, brought, uses_in, with_brought}
use Rattle.cdi_match.proofs.bindings.with_brought.Given as goal

abbrev pub invariant-loop-name : goal.invariant-loop-name
invariant-loop-name l =
    uses_in l.list.items ++ flat_map (brought l.decls) l.name-iterator.rest.items ≡ with_brought l.decls (uses_in l.fn.uses.items)
