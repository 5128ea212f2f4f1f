use Rattle.cdi_live.proofs.Common.{refl, ap, ◌∙◌, list_any, bytes_eq, ◌||◌, asks_before, is_dropped_at}
use Rattle.cdi_live.proofs.GoneLemmas.{gone-between}
use Rattle.cdi_live.proofs.stage.gone_after.Goals as goal

pub returns : goal.returns
returns c t us kept =
    let wants = c.args.wants.now in
    let sides = wants.sides.now in
    let ds = sides.index.now.decls in
    let es = sides.next.now in
    let m = wants.choices.now in
    let types = c.as_slice.result.now in
    c.in_ok-push_dropped.ensures t us
    ∙ ap (λ b. b || list_any (is_dropped_at (asks_before wants) t us) sides.edited.now) (c.in_ok-gone.ensures t us)
    ∙ gone-between sides c.requires.between c.requires.between.distinct
    c.requires.between.apart m c.requires.wanted (asks_before wants) refl (λ s vs. refl) types
    (λ n. ap (list_any (bytes_eq n)) c.as_slice.ensures.keys ∙ c.in_ok-types.ensures n) t us kept
