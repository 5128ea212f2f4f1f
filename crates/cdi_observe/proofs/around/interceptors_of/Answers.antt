use Rattle.cdi_observe.proofs.Common.{◌≡◌, true, map, length, sym, ap, ◌∙◌, AllByRecursion, has_place, list_all, All-from_recursion, subst}
use Rattle.cdi_observe.proofs.Common.{◌<◌, AllPass-from_list_all, ChainKey, is_answerable, get_or-map, length-map}
use Rattle.cdi_observe.proofs.BeanPlaceLemmas.{has-each_place}
use Rattle.cdi_observe.proofs.around.interceptors_of.Goals as goal

pub push_names_at-requires-clause-place : goal.push_names_at-requires-clause-place
push_names_at-requires-clause-place g c =
    let bean = c.args.bean.now in
    let items = c.as_slice-place-items.result.now in
    let each : AllByRecursion (λ place. has_place bean place ≡ true) items =
    subst (AllByRecursion (λ place. has_place bean place ≡ true)) (sym (c.as_slice-place-items.ensures.value ∙ c.in_ok-places.ensures))
    (has-each_place bean) in
    subst (λ place. has_place bean place ≡ true) (sym c.place-item.is)
    (All-from_recursion (λ place. has_place bean place ≡ true) items each c.loop-place.place-index c.place-item.result
    c.loop-place-test.true)

pub push_names_at-requires-clause-answerable : goal.push_names_at-requires-clause-answerable
push_names_at-requires-clause-answerable g c =
    let f = ChainKey c.args.bean.now.name in
    let items = c.as_slice-place-items.result.now in
    let test = is_answerable (g.V.View.kept c.args.view.now) in
    let i = c.loop-place.place-index in
    let key = f c.place-item.result in
    let all : list_all test (map f items) ≡ true =
    ap (λ ps. list_all test (map f ps)) (c.as_slice-place-items.ensures.value ∙ c.in_ok-places.ensures) ∙ c.requires.answerable in
    let within : i < length (map f items) = subst (λ n. i < n) (sym (length-map items f)) c.loop-place-test.true in
    ap test (ap f c.place-item.is ∙ sym (get_or-map f items i c.place-item.result key c.loop-place-test.true))
    ∙ AllPass-from_list_all test (map f items) all i key within
