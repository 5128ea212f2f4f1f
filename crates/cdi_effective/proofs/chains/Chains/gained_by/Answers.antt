use Rattle.cdi_effective.proofs.Common.{chain, rules}
use Rattle.cdi_effective.proofs.GainedLemmas.{next-gives-place}
use Rattle.cdi_effective.proofs.chains.Chains.gained_by.Goals as goal

pub loop-place-preserved : goal.loop-place-preserved
loop-place-preserved c =
    next-gives-place c.args.self.now.decls.now _ _ c.in-Some.place _ _ (chain c.args.self.now.decls.now c.args.bean.now)
    c.in_ok-add_gained.ensures (search rules) c.loop-place.invariant
