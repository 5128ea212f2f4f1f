use Rattle.cdi_staging.proofs.Common.{◌≡◌, map, None, sym, ap, ◌∙◌, position_from, option_or, position_from-zero, is_told_by, same_id}
use Rattle.cdi_staging.proofs.Common.{rules, get}
use Rattle.cdi_staging.proofs.PositionLemmas.{place-next}
use Rattle.cdi_staging.proofs.positions.places_of.Goals as goal

pub loop-place-init : goal.loop-place-init
loop-place-init c id =
    let beans = map (λ b. b.now) c.args.beans.now in
    let none : get same_id c.new-places.result id ≡ None = search rules in
    ap (λ o. option_or o (position_from (is_told_by id) 0 beans)) none ∙ sym (position_from-zero (is_told_by id) beans)

pub loop-place-preserved : goal.loop-place-preserved
loop-place-preserved c id =
    place-next (λ b. b.now) c.args.beans.now c.loop-place.place c.index-beans-place.result id (get same_id c.loop-place.places id) _
    c.loop-place-test.true c.index-beans-place.is (c.in_ok-add_place.ensures id) (c.loop-place.invariant id)
