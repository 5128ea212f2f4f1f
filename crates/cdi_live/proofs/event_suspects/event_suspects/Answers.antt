use Rattle.cdi_live.proofs.Common.{ap, ◌∙◌, list_any, bytes_eq, ◌||◌, flat_map, map, holds, key_at, is_among, keys_of, fired_types}
use Rattle.cdi_live.proofs.Common.{may_have, observed_by_key, types_observed}
use Rattle.cdi_model.specs.declared.decl.Kind.TheVariants as kinds
use Rattle.cdi_live.proofs.EventSuspectLemmas.{suspects-are}
use Rattle.cdi_live.proofs.event_suspects.event_suspects.Goals as goal

pub returns : goal.returns
returns c t =
    let sides = c.args.sides.now in
    let ds = sides.index.now.decls in
    let kept = keys_of c.args.events.now in
    let names = c.as_slice.result.now in
    let users = c.in_ok-users.users.items in
    let by_key = flat_map (observed_by_key ds sides.next.now) sides.affected.now in
    c.in_ok-add_all_having.ensures t
    ∙ ap (λ b. b || list_any (λ x. may_have ds kept x t) names)
    (c.in_ok-add_all_fired.ensures t
    ∙ ap (λ b. b || holds (flat_map fired_types (map (λ d. d.now) c.deref-2.result.now)) t) (c.in_ok-types.ensures t)
    ∙ ap (λ us. is_among sides.affected.now (key_at kinds.Type t) || holds (flat_map fired_types (map (λ d. d.now) us)) t)
    c.deref-2.ensures.value)
    ∙ suspects-are ds sides.next.now sides.edited.now sides.affected.now kept (map (λ d. d.now) users) names t c.in_ok-users.ensures
    (λ x. ap (list_any (bytes_eq x)) c.as_slice.ensures.keys ∙ c.in_ok-names.ensures x
    ∙ ap (λ us. holds by_key x || holds (flat_map types_observed (map (λ d. d.now) us)) x) c.deref.ensures.value)
