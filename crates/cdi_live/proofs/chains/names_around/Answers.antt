use Rattle.cdi_live.proofs.Common.{◌≡◌, List, map, filter, ap, ◌∙◌, Decl, Qual, InterceptorDecl, in_text_order, in_order, surrounds}
use Rattle.cdi_live.proofs.Common.{is_seen, names_around, Word, set_by, has_one, words_bound, IfOk-weaker, lent_in}
use Rattle.cdi_match.specs.Bindings.{uses_in}
use Rattle.cdi_live.proofs.{AroundLemmas.around-found, InterceptorLemmas.seen-found}
use Rattle.cdi_live.proofs.chains.names_around.Goals as goal

pub returns : goal.returns
returns c =
    let ds = c.args.index.now.decls in
    let place = c.args.place.now in
    let set : List Qual = set_by ds c.args.class.now c.args.bean.now place in
    let us : List Qual = uses_in c.in_ok-bindings.bindings.items in
    let words : List Word = c.deref-2.result.now in
    let found : List Decl = map (λ d. d.now) c.deref-3.result.now in
    let around : List InterceptorDecl = lent_in c.deref-4.result.now in
    let is : us ≡ in_text_order set = c.in_ok-bindings.ensures
    ∙ ap (λ l. in_text_order (set_by l c.args.class.now c.args.bean.now place)) c.decls.ensures.value in
    let are : words ≡ words_bound us = c.deref-2.ensures.value ∙ c.in_ok-words.ensures
    ∙ ap (λ bs. words_bound (uses_in bs)) c.deref.ensures.value in
    let there : found ≡ filter (has_one ds words) ds = ap (map (λ d. d.now)) c.deref-3.ensures.value ∙ c.in_ok-decls.ensures in
    let same : filter (is_seen us place) around ≡ filter (is_seen us place) (in_order ds) =
    ap (λ xs. filter (is_seen us place) (lent_in xs)) c.deref-4.ensures.value
    ∙ ap (filter (is_seen us place)) c.in_ok-interceptors.ensures
    ∙ seen-found us place ds found words are there in
    IfOk-weaker c.names_among.result
    (λ names. names ≡ map (λ i. i.name) (filter (surrounds c.decls-2.result.now (uses_in c.deref-5.result.now) place) around))
    (λ names. names ≡ names_around ds set place)
    (λ names got. got
    ∙ ap (λ l. map (λ i. i.name) (filter (surrounds l (uses_in c.deref-5.result.now) place) around)) c.decls-2.ensures.value
    ∙ ap (λ bs. map (λ i. i.name) (filter (surrounds ds (uses_in bs) place) around)) c.deref-5.ensures.value
    ∙ around-found ds set us place around is same)
    c.names_among.ensures
