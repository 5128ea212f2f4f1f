use Rattle.cdi_validate.proofs.Common.{◌≡◌, ◌++◌, sym, ap, ◌∙◌, [], ◌∷◌, subst, is_first_enabled, specializing_by, AllZip, KeepsChain}
use Rattle.cdi_validate.proofs.LinkLemmas.{specializing-one, zip-push}
use Rattle.cdi_validate.proofs.twice.push_of_decl.Goals as goal

pub returns : goal.returns
returns g c = λ bs kept.
    let ds = g.V.View.list c.args.view.now in
    let b = c.in-Bean.bean in
    let chain = c.in_ok-chain_of.field-0 in
    let own : specializing_by ds c.args.decl.now ≡ b ∷ [] = ap (specializing_by ds) c.in-Bean.is
    ∙ specializing-one ds b c.if-not-bean.false
    (ap is_first_enabled (sym c.records.ensures) ∙ sym c.is_first_enabled.ensures ∙ c.if-not-is_first_enabled.false) in
    subst (λ chains. AllZip (KeepsChain ds) chains (bs ++ specializing_by ds c.args.decl.now)) (sym c.in_ok-push.ensures.items)
    (subst (λ more. AllZip (KeepsChain ds) (c.args.chains.now.items ++ chain ∷ []) (bs ++ more)) (sym own)
    (zip-push (KeepsChain ds) c.args.chains.now.items bs chain b kept
    (subst (λ ds. KeepsChain ds chain b) c.decls.ensures.value c.in_ok-chain_of.ensures)))
