use Rattle.cdi_live.proofs.Common.{◌≡◌, List, map, filter, ap, ◌∙◌, Effective, beans, offers, see_same_beans, IfOk-weaker}
use Rattle.cdi_questions.proofs.CandidateLemmas.{has_enough}
use Rattle.cdi_seen.specs.Touched.{beans_alike}
use Rattle.cdi_live.proofs.compare.see_same_beans.Goals as goal

pub returns : goal.returns
returns c =
    let ds = c.args.sides.now.index.now.decls in
    let es = c.args.sides.now.next.now in
    let t = c.args.bean_type.now in
    let olds : List Effective = map (λ bean. bean.now) c.deref-3.result.now in
    let news : List Effective = map (λ bean. bean.now) c.deref-4.result.now in
    let before : olds ≡ filter (offers t) (beans ds) =
    ap (map (λ bean. bean.now)) c.deref-3.ensures.value ∙ c.in_ok-olds.ensures.value
    ∙ ap (λ xs. filter (offers t) (map (λ bean. bean.now) xs)) c.deref.ensures.value ∙ ap (filter (offers t)) c.in_ok-before.ensures
    ∙ has_enough t (beans ds) in
    let after : news ≡ filter (offers t) (beans es) =
    ap (map (λ bean. bean.now)) c.deref-4.ensures.value ∙ c.in_ok-news.ensures.value
    ∙ ap (λ xs. filter (offers t) (map (λ bean. bean.now) xs)) c.deref-2.ensures.value ∙ ap (filter (offers t)) c.in_ok-after.ensures
    ∙ has_enough t (beans es) in
    IfOk-weaker c.same_beans.result
    (λ is. is ≡ beans_alike c.decls.result.now olds c.decls-2.result.now news)
    (λ is. is ≡ see_same_beans ds es t)
    (λ is same. same ∙ ap (λ d. beans_alike d olds c.decls-2.result.now news) c.decls.ensures.value
    ∙ ap (λ e. beans_alike ds olds e news) c.decls-2.ensures.value
    ∙ ap (λ xs. beans_alike ds xs es news) before ∙ ap (beans_alike ds (filter (offers t) (beans ds)) es) after)
    c.same_beans.ensures.same
