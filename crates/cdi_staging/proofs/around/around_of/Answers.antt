use Rattle.cdi_staging.proofs.Common.{◌≡◌, true, ◌++◌, map, sym, ap, subst, ◌∙◌, flat_map, InterceptorDecl, in_order, are_answerable}
use Rattle.cdi_staging.proofs.Common.{key_of_point, around_in, Around, around_of, targets, rules, lent_in}
use Rattle.cdi_staging.proofs.AnswerableLemmas.{interceptors-asked}
use Rattle.cdi_staging.proofs.around.around_of.Goals as goal

pub loop-decl-init : goal.loop-decl-init
unfolding around_of
loop-decl-init g c =
    let ds = g.V.View.list c.args.view.now in
    let kept = g.V.View.kept c.args.view.now in
    let given : c.into_iter-decl-iterator.result.rest.items ≡ c.in_ok-decl-items.decl-items.items = search rules in
    let same : lent_in c.into_iter-decl-iterator.result.rest.items ≡ in_order ds = ap lent_in given
    ∙ c.in_ok-decl-items.ensures ∙ ap in_order c.decls-decls.ensures.value in
    let shown : InterceptorDecl → Around = λ i. (i, targets ds i.points) in
    record {
      answerable = subst (λ is. are_answerable kept (map key_of_point (flat_map (λ i. i.points) is)) ≡ true) (sym same)
          (interceptors-asked ds kept c.decls-decls.ensures.distinct c.requires.evaluated);
      around = ap (λ list. map around_in list ++ map shown (lent_in c.into_iter-decl-iterator.result.rest.items)) c.new-list.ensures.items
          ∙ ap (map shown) same;
    }
