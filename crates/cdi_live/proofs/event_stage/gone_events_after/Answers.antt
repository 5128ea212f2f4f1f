use Rattle.cdi_live.proofs.Common.{refl, ap, ◌∙◌, list_any, bytes_eq, ◌||◌, drops_before}
use Rattle.cdi_live.proofs.EventGoneLemmas.{gone-between}
use Rattle.cdi_live.specs.{EventDropped.is_dropped_at, declared.event_dropped.EventWants.EventWants}
use Rattle.cdi_live.proofs.event_stage.gone_events_after.Goals as goal

pub returns : goal.returns
returns c t us kept =
    let sides = c.args.sides.now in
    let ds = sides.index.now.decls in
    let wants : EventWants = record { sides = c.args.sides; events = c.args.events } in
    let drops = drops_before wants in
    c.in_ok-push_dropped_events.ensures t us
    ∙ ap (λ b. b || list_any (is_dropped_at ds drops t us) sides.edited.now) (c.in_ok-gone.ensures t us)
    ∙ gone-between sides c.requires.between c.requires.between.distinct
    c.requires.between.apart c.args.events.now c.requires.wanted drops (λ s vs. refl)
    c.as_slice.result.now
    (λ n. ap (list_any (bytes_eq n)) c.as_slice.ensures.keys ∙ c.in_ok-types.ensures n) t us kept
