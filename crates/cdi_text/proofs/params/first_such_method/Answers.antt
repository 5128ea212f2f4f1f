use Rattle.cdi_text.proofs.Common.{◌≡◌, ℕ, List, map, codes, Some, IfOk, option_and_then, unwrap_or, sym, subst, ap, ◌∙◌, Items, no_items}
use Rattle.cdi_text.proofs.Common.{get_member, as_array, array_view, table_view, HasTexts, FindsMethod}
use Rattle.cdi_text.specs.Params.{point_names}
use Rattle.cdi_text.proofs.params.first_such_method.Goals as goal

pub returns-in_ok-points-in-Some-2 : goal.returns-in_ok-points-in-Some-2
returns-in_ok-points-in-Some-2 c =
    let bean = table_view c.args.bean.now in
    let names : List (List ℕ) = point_names (codes "points") bean in
    let there : option_and_then as_array (get_member c.args.key.now bean)
    ≡ Some (array_view c.in-Some.methods.now) = sym (rw c.in-Some.is at c.list_at.ensures) in
    let points : map (λ t. t.now) c.as_slice.result.now ≡ names = ap (map (λ t. t.now)) c.as_slice.ensures.value
    ∙ c.in_ok-points-in-Some.ensures in
    let H : List (List ℕ) → Type 0 = λ ns. HasTexts c.in_ok-points-in-Some-2.points ns in
    let P : Items → Type 0 = λ ds. IfOk c.first_with_param_in.result (FindsMethod names ds) in
    subst P (sym (ap (λ o. unwrap_or o no_items) there))
    (c.first_with_param_in.ensures names (subst H points c.in_ok-points-in-Some-2.ensures))
