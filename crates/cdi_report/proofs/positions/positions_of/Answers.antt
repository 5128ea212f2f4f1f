use Rattle.cdi_report.proofs.Common.{false, ap, ◌∙◌, same_key, key_of, list_any, is_at, ◌||◌, option_map_or}
use Rattle.std.proofs.Common.{slice_get}
use Rattle.cdi_report.proofs.PositionLemmas.{at-both, at-keys}
use Rattle.cdi_report.proofs.positions.positions_of.Goals as goal

pub returns : goal.returns
returns c = λ p.
    let ds = c.args.decls.now in
    let keys = c.args.keys.now in
    let others = c.args.others.now in
    c.mark_each-2.ensures.marks p
    ∙ ap (λ b. b || list_any (λ k. is_at ds k p) others)
    (c.mark_each.ensures.marks p ∙ ap (λ b. b || list_any (λ k. is_at ds k p) keys) (c.new-positions.ensures.none p))
    ∙ ap (λ b. b || list_any (λ k. is_at ds k p) others) (at-keys ds c.requires keys p)
    ∙ ap (λ b. option_map_or (λ d. list_any (same_key (key_of d)) keys) (slice_get ds p) false || b) (at-keys ds c.requires others p)
    ∙ at-both keys others (slice_get ds p)
