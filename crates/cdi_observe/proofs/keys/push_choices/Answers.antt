use Rattle.cdi_observe.proofs.Common.{◌++◌, map, sym, ap, ◌∙◌, flat_map, append_assoc, asked_key, key_of_point, shown, point_named}
use Rattle.std.proofs.lemmas.List.{map-append}
use Rattle.cdi_observe.proofs.keys.push_choices.Goals as goal

pub loop-mention-preserved : goal.loop-mention-preserved
loop-mention-preserved c =
    let own = point_named (shown c.in-Some.mention) in
    let left = flat_map point_named c.next.new.self in
    let olds = map asked_key c.loop-mention.list.items in
    ap (λ keys. keys ++ map key_of_point left) c.in_ok-push_choice.ensures
    ∙ append_assoc olds (map key_of_point own) (map key_of_point left)
    ∙ ap (λ keys. olds ++ keys) (sym (map-append key_of_point own left)
    ∙ ap (map key_of_point) (sym (ap (flat_map point_named) c.in-Some.ensures.steps)))
    ∙ c.loop-mention.invariant
