use Rattle.cdi_text.proofs.Common.{◌≡◌, codes, map, ap, sym, ◌∙◌, list_any, table, view, table_view, is_text_among, is_such}
use Rattle.toml.proofs.Views.{view-Table}
use Rattle.cdi_text.proofs.ParamLemmas.{some_in}
use Rattle.cdi_text.specs.Params.{point_names}
use Rattle.cdi_text.proofs.params.has_param_in.Goals as goal

pub returns-in_ok-params-in-Table : goal.returns-in_ok-params-in-Table
returns-in_ok-params-in-Table c = λ texts has.
    let ms = table_view c.in-Table.method in
    let seen : view c.args.method.now ≡ table ms = ap view c.in-Table.is ∙ view-Table c.in-Table.method in
    let params : map (λ t. t.now) c.as_slice.result.now ≡ point_names (codes "params") ms =
    ap (map (λ t. t.now)) c.as_slice.ensures.value ∙ c.in_ok-params-in-Table.ensures in
    c.has_some_in.ensures ∙ some_in c.args.names.now texts c.as_slice.result.now has ∙ ap (list_any (is_text_among texts)) params
    ∙ sym (ap (is_such texts) seen)
