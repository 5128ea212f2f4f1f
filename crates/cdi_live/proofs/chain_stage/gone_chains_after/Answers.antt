use Rattle.cdi_live.proofs.Common.{◌≡◌, ◌&&◌, List, ap, ◌∙◌, list_any, bytes_eq, BeanPlace, ℕ, parts_under, same_place, goes, is_gone_chain}
use Rattle.cdi_live.proofs.Common.{AreGoneChains, IfOk-weaker}
use Rattle.cdi_live.proofs.ChainGoneLemmas.{chains-between}
use Rattle.cdi_live.proofs.chain_stage.gone_chains_after.Goals as goal

pub returns : goal.returns
returns c =
    let sides = c.args.sides.now in
    let ds = sides.index.now.decls in
    let es = sides.next.now in
    let m = c.args.chains.now in
    let classes = c.as_slice.result.now in
    IfOk-weaker c.gone_of_classes.result
    (λ gone. (k : List ℕ) (p : BeanPlace) → is_gone_chain gone.items k p
    ≡ list_any (λ n. bytes_eq k n && list_any (λ q. same_place p q && goes ds es n q) (parts_under m n)) classes)
    (λ gone. AreGoneChains ds es m gone.items)
    (λ gone are k p kept. are k p
    ∙ chains-between sides c.requires.between c.requires.between.distinct
    c.requires.between.apart m c.requires.wanted classes
    (λ n. ap (list_any (bytes_eq n)) c.as_slice.ensures.keys ∙ c.in_ok-classes.ensures n) k p kept)
    c.gone_of_classes.ensures
