use Rattle.cdi_live.proofs.Common.{◌≡◌, List, map, filter, ap, ◌∙◌, Qual, in_order, is_seen, lent_in, IfOk-weaker}
use Rattle.cdi_match.specs.Bindings.{uses_in}
use Rattle.cdi_seen.specs.Touched.{interceptors_alike}
use Rattle.cdi_live.specs.ChainCompared.{see_same_interceptors}
use Rattle.cdi_live.proofs.InterceptorLemmas.{seen-found}
use Rattle.cdi_live.proofs.chain_compare.see_same_among.Goals as goal

pub returns : goal.returns
returns c =
    let ds = c.args.sides.now.index.now.decls in
    let es = c.args.sides.now.next.now in
    let us : List Qual = uses_in c.args.bindings.now in
    let place = c.args.place.now in
    let olds : lent_in c.deref-5.result.now ≡ filter (is_seen us place) (in_order ds) =
    ap lent_in c.deref-5.ensures.value ∙ c.in_ok-olds.ensures
    ∙ seen-found us place ds (map (λ d. d.now) c.deref-3.result.now) c.deref.result.now (c.deref.ensures.value ∙ c.in_ok-words.ensures)
    (ap (map (λ d. d.now)) c.deref-3.ensures.value ∙ c.in_ok-before.ensures) in
    let news : lent_in c.deref-6.result.now ≡ filter (is_seen us place) (in_order es) =
    ap lent_in c.deref-6.ensures.value ∙ c.in_ok-news.ensures
    ∙ seen-found us place es (map (λ d. d.now) c.deref-4.result.now) c.deref-2.result.now (c.deref-2.ensures.value ∙ c.in_ok-words.ensures)
    (ap (map (λ d. d.now)) c.deref-4.ensures.value ∙ c.in_ok-after.ensures) in
    IfOk-weaker c.same_interceptors.result
    (λ is. is ≡ interceptors_alike c.decls.result.now (lent_in c.deref-5.result.now) c.decls-2.result.now (lent_in c.deref-6.result.now))
    (λ is. is ≡ see_same_interceptors ds es us place)
    (λ is same. same
    ∙ ap (λ l. interceptors_alike l (lent_in c.deref-5.result.now) c.decls-2.result.now (lent_in c.deref-6.result.now)) c.decls.ensures.value
    ∙ ap (λ l. interceptors_alike ds (lent_in c.deref-5.result.now) l (lent_in c.deref-6.result.now)) c.decls-2.ensures.value
    ∙ (λ i. interceptors_alike ds (olds i) es (news i)))
    c.same_interceptors.ensures.same
