use Rattle.cdi_staging.proofs.Common.{◌≡◌, map, position_from, option_or, BeanId, is_told_by, drop, same_id, get, position}
use Rattle.cdi_staging.proofs.positions.places_of.Given as goal

abbrev pub invariant-loop-place : goal.invariant-loop-place
invariant-loop-place l = (id : BeanId) →
    option_or (get same_id l.places id) (position_from (is_told_by id) l.place (map (λ b. b.now) (drop l.place l.beans)))
    ≡ position (is_told_by id) (map (λ b. b.now) l.beans)
