use Rattle.std.proofs.Common.{◌≡◌, Some, map, filter, ap, ◌∙◌}
use Rattle.std.specs.List.{slice_get}
use Rattle.std.proofs.lemmas.Result.{IfOk-weaker}
use Rattle.cdi_resolve.proofs.PlaceLemmas.{places-within, places-enough}
use Rattle.cdi_resolve.specs.Choices.{offers}
use Rattle.cdi_resolve.proofs.bean_list.BeanList.choose.Goals as goal

pub at_places-requires : goal.at_places-requires
at_places-requires c =
    let places = c.places_of.result.now in
    places-within c.deref.result.now places (filter (offers c.args.bean_type) c.args.self.now)
    (ap (λ beans. map (slice_get beans) places) (c.deref.ensures.value ∙ c.self.view_is) ∙ c.places_of.ensures)

pub returns-clause-choice : goal.returns-clause-choice
returns-clause-choice c =
    let beans = c.args.self.now in
    let places = c.places_of.result.now in
    let read : map (λ bean. Some bean.now) c.deref-2.result.now ≡ map (slice_get beans) places =
    ap (map (λ bean. Some bean.now)) c.deref-2.ensures.value ∙ c.in_ok-candidates.ensures
    ∙ ap (λ list. map (slice_get list) places) (c.deref.ensures.value ∙ c.self.view_is) in
    IfOk-weaker c.choose_from.result _ _
    (λ choice chooses. chooses beans
    (places-enough (λ bean. bean.now) c.args.bean_type beans places c.deref-2.result.now read c.places_of.ensures))
    c.choose_from.ensures.choice
