use Rattle.cdi_staging.proofs.Common.{◌≡◌, map, refl, sym, ap, subst, ◌∙◌, has, as_bean, names_at, around_in, names_among, chain_at}
use Rattle.cdi_staging.proofs.Common.{places_from}
use Rattle.std.specs.Result.{IsOk}
use Rattle.std.proofs.lemmas.Result.{IfOk-weaker}
use Rattle.cdi_observe.proofs.AroundLemmas.{told-names, told-same}
use Rattle.cdi_staging.proofs.{AnswerableLemmas.place-answerable, ClassLemmas.names-at_place, ClassLemmas.positions-at_place}
use Rattle.cdi_staging.proofs.stage.Stage.chain.Goals as goal

pub lent_chain-requires-clause-answerable : goal.lent_chain-requires-clause-answerable
lent_chain-requires-clause-answerable g c =
    let self = c.args.self.now in
    place-answerable (g.V.View.list self.view.now) (g.V.View.kept self.view.now) c.args.bean.now c.args.place.now c.requires.declared
    self.evaluated c.requires.place

pub lent_chain-requires-clause-told : goal.lent_chain-requires-clause-told
lent_chain-requires-clause-told g c =
    let ds = g.V.View.list c.args.self.now.view.now in
    subst IsOk (sym (told-names ds c.args.bean.now c.args.place.now (ap as_bean c.requires.declared) c.requires.place)) refl

pub positions_named-requires : goal.positions_named-requires
positions_named-requires g c =
    let self = c.args.self.now in
    let ds = g.V.View.list self.view.now in
    let bean = c.args.bean.now in
    let place = c.args.place.now in
    let are : c.as_slice.result.now ≡ names_at ds bean place = c.as_slice.ensures ∙ c.get.ensures
    ∙ told-same ds bean place _ (ap as_bean c.requires.declared) c.requires.place c.in_ok-names.ensures in
    subst (λ names. names ≡ names_among names (map around_in self.around.now)) (sym are)
    (names-at_place ds bean place self.distinct ∙ ap (names_among (names_at ds bean place)) (sym self.enabled))

pub returns : goal.returns
returns g c =
    let self = c.args.self.now in
    let ds = g.V.View.list self.view.now in
    let bean = c.args.bean.now in
    let place = c.args.place.now in
    let names = c.as_slice.result.now in
    let are : names ≡ names_at ds bean place = c.as_slice.ensures ∙ c.get.ensures
    ∙ told-same ds bean place _ (ap as_bean c.requires.declared) c.requires.place c.in_ok-names.ensures in
    let same : places_from (λ a. has names a.0.name) 0 (map around_in self.around.now) ≡ chain_at ds bean place =
    ap (λ list. places_from (λ a. has list a.0.name) 0 (map around_in self.around.now)) are
    ∙ ap (places_from (λ a. has (names_at ds bean place) a.0.name) 0) self.enabled
    ∙ positions-at_place ds bean place self.distinct in
    IfOk-weaker c.positions_named.result (λ list. list ≡ places_from (λ a. has names a.0.name) 0 (map around_in self.around.now))
    (λ list. list ≡ chain_at ds bean place) (λ list e. e ∙ same) c.positions_named.ensures
