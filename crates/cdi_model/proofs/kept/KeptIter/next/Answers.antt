use Rattle.cdi_model.proofs.Common.{◌≡◌, ◌+◌, ◌<◌, ◌≤◌, [], ◌∷◌, length, MatchOption, arith, sym, subst, ◌∙◌, changed_by}
use Rattle.cdi_model.proofs.LeftLemmas.{kept_from, next-kept, none-after, none-left}
use Rattle.cdi_model.proofs.ReplacedLemmas.{length-changed}
use Rattle.cdi_model.proofs.kept.KeptIter.next.Goals as goal

pub returns-then-place-end : goal.returns-then-place-end
returns-then-place-end c =
    let ds = changed_by c.self.inside.replaced.now c.self.inside.base.now in
    let size = length-changed c.self.inside.replaced.now c.self.inside.base.now in
    let end : length ds ≤ c.len-end.result = omega (arith, size, c.len-end.ensures) in
    let past : length ds ≤ c.first_outside-place.result = omega (arith, end, c.if-place-end.true) in (
      sym c.self.view_is
          ∙ none-after c.self.inside.place c.first_outside-place.result c.self.inside.gone.now ds past
          c.first_outside-place.ensures.skipped,
      none-left c.len-end.result c.self.inside.gone.now ds end,
    )

pub returns : goal.returns
returns c =
    let ds = changed_by c.self.inside.replaced.now c.self.inside.base.now in
    let place = c.first_outside-place.result in
    let size = length-changed c.self.inside.replaced.now c.self.inside.base.now in
    let within : place < length ds = omega (arith, size, c.len-end.ensures, c.if-place-end.false) in
    subst (λ left. MatchOption c.standing.result ((left ≡ []) × (kept_from (place + 1) c.self.inside.gone.now ds ≡ []))
    (λ d. left ≡ d.now.value ∷ kept_from (place + 1) c.self.inside.gone.now ds))
    c.self.view_is
    (next-kept c.standing.result c.self.inside.place place c.self.inside.gone.now ds c.standing.ensures within
    (c.first_outside-place.ensures.low c.if-place-end.false) c.first_outside-place.ensures.skipped
    (c.first_outside-place.ensures.outside c.if-place-end.false))
