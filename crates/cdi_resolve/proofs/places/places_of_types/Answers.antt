use Rattle.std.proofs.Common.{◌≡◌, ◌&&◌, ◌++◌, ◌∷◌, [], cond, ap, ◌∙◌, sym, append-nil}
use Rattle.cdi_match.specs.Chain.{has}
use Rattle.cdi_resolve.proofs.PlaceLemmas.{bean-next}
use Rattle.cdi_resolve.proofs.places.places_of_types.Goals.{then-bean+in_ok-add_types, else-bean}
use Rattle.cdi_resolve.specs.{Choices.offers, Places.places_at}
use Rattle.cdi_resolve.proofs.places.places_of_types.Goals as goal

pub loop-place-preserved : goal.loop-place-preserved
loop-place-preserved c t =
    let bean = c.index-beans-place.result in
    let place = c.loop-place.place in
    let olds = places_at c.loop-place.types t in
    let noted : places_at c.if-bean.types t ≡ olds ++ cond (offers t bean) (place ∷ []) [] =
    (elim c.if-bean.branch [
      | then-bean+in_ok-add_types w ↦
          ap (λ types. places_at types t) w.types-is ∙ w.in_ok-add_types.ensures t
          ∙ ap (λ names. olds ++ cond (has names t) (place ∷ []) []) w.as_slice.ensures
          ∙ sym (ap (λ b. olds ++ cond (b && has bean.types t) (place ∷ []) []) w.if-bean.true)
      | else-bean w ↦
          ap (λ types. places_at types t) w.types-is
          ∙ sym (append-nil olds)
          ∙ sym (ap (λ b. olds ++ cond (b && has bean.types t) (place ∷ []) []) w.if-bean.false)
    ]) in
    bean-next c.args.beans.now place bean t olds _ _ c.loop-place-test.true c.index-beans-place.is noted (c.loop-place.invariant t)
