use Rattle.cdi_validate.proofs.Common.{◌≡◌, ◌++◌, sym, ap, ◌∙◌, append_assoc, flat_map, [], ◌∷◌, filter, subst, enabled_bean, AllZip}
use Rattle.cdi_validate.proofs.Common.{KeepsChain}
use Rattle.cdi_validate.proofs.LinkLemmas.{specializing-next}
use Rattle.cdi_validate.proofs.twice.chains_of.Goals as goal

pub loop-decl-preserved : goal.loop-decl-preserved
loop-decl-preserved g c =
    let ds = g.V.View.list c.args.view.now in
    let gone = c.loop-decl.invariant in
    let es = gone.0 in
    let d = c.in-Some.decl.now in
    let rest = c.next.new.self in
    let split : es ++ d ∷ rest ≡ ds = ap (λ left. es ++ left) (sym c.in-Some.ensures.steps) ∙ gone.1 in (
      es ++ d ∷ [],
      append_assoc es (d ∷ []) rest ∙ split,
      subst (AllZip (KeepsChain ds) c.push_of_decl.new.chains.items)
          (specializing-next ds es rest d c.decls.ensures.distinct split)
          (c.in_ok-push_of_decl.ensures (filter (λ b. b.specializes) (flat_map (enabled_bean ds) es)) gone.2),
    )
