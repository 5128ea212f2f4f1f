use Rattle.cdi_match.proofs.Common.{subst, sym, Meets}
use Rattle.cdi_match.proofs.WalkLemmas.{Meets-cons, Meets-none}
use Rattle.cdi_match.proofs.walk.Walk.add_all.Goals as goal

pub loop-name-preserved : goal.loop-name-preserved
loop-name-preserved c = (
  c.add.ensures.kept c.loop-name.invariant.0,
  λ w more. c.loop-name.invariant.1 w
      (subst (λ names. Meets c.args.links c.args.decls.now names c.loop-name.self w) (sym c.in-Some.ensures.steps)
      (Meets-cons c.args.links c.args.decls.now c.in-Some.name.now _ _ _ _ c.add.ensures more)),
)

pub returns : goal.returns
returns c =
    c.loop-name.invariant.1 c.loop-name.self
    (subst (λ names. Meets c.args.links c.args.decls.now names c.loop-name.self c.loop-name.self) (sym c.in-None.ensures.steps.0)
    (Meets-none c.args.links c.args.decls.now c.loop-name.self))
