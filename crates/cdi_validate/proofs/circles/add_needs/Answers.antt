use Rattle.cdi_validate.proofs.Common.{◌≡◌, ◌++◌, sym, ap, ◌∙◌, flat_map, true, map, subst, mentions, point_named, need_in, needs_in}
use Rattle.cdi_validate.proofs.Common.{IsFound, IfOk-weaker, are_answerable, key_of_point, points-answerable}
use Rattle.cdi_validate.specs.Needed.{edges_of}
use Rattle.cdi_validate.proofs.circles.add_needs.Goals as goal

pub add_needs_along-requires : goal.add_needs_along-requires
add_needs_along-requires g c =
    let kept = g.V.View.kept c.args.view.now in
    subst (λ ms. are_answerable kept (map key_of_point (flat_map point_named ms)) ≡ true) (sym c.mentions.ensures)
    (points-answerable (g.V.View.list c.args.view.now) kept c.args.decl.now c.requires.found c.requires.evaluated)

pub add_needs_around-requires-clause-found : goal.add_needs_around-requires-clause-found
add_needs_around-requires-clause-found g c = subst (IsFound (g.V.View.list c.args.view.now)) c.in-Interceptor.is c.requires.found

pub returns-in-Bean : goal.returns-in-Bean
returns-in-Bean g c =
    let ds = g.V.View.list c.args.view.now in
    let drawn = edges_of c.args.dependents.now.numbers in
    let old = c.args.edges.now.items in
    IfOk-weaker c.add_needs_along.result _ _ (λ done e. e
    ∙ ap (λ ms. old ++ drawn (flat_map (need_in ds c.in-Bean.bean) ms)) (c.mentions.ensures ∙ ap mentions c.in-Bean.is)
    ∙ ap (λ d. old ++ drawn (needs_in ds d)) (sym c.in-Bean.is)) c.add_needs_along.ensures

pub returns-in-Interceptor : goal.returns-in-Interceptor
returns-in-Interceptor g c =
    IfOk-weaker c.add_needs_around.result _ _ (λ done e. e
    ∙ ap (λ d. c.args.edges.now.items ++ edges_of c.args.dependents.now.numbers (needs_in (g.V.View.list c.args.view.now) d))
    (sym c.in-Interceptor.is)) c.add_needs_around.ensures
