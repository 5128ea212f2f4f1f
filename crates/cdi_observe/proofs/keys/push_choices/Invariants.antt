use Rattle.cdi_observe.proofs.Common.{◌≡◌, ◌++◌, map, flat_map, asked_by, asked_key, key_of_point, point_named}
use Rattle.cdi_observe.proofs.keys.push_choices.Given as goal

abbrev pub invariant-loop-mention : goal.invariant-loop-mention
invariant-loop-mention l = map asked_key l.list.items ++ map key_of_point (flat_map point_named l.mention-iterator)
    ≡ map asked_key l.fn.list.items ++ asked_by l.decl
