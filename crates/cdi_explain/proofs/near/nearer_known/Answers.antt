use Rattle.std.proofs.Common.{subst}
use Rattle.cdi_explain.proofs.FarLemmas.{far-apart, stays-nearest}
use Rattle.cdi_explain.specs.Counts.{AreApart}
use Rattle.cdi_explain.proofs.near.nearer_known.Goals as goal

pub returns-then-are_apart-clause-near : goal.returns-then-are_apart-clause-near
returns-then-are_apart-clause-near c =
    let wanted = c.args.wanted.now in
    let known = c.args.known.now in
    stays-nearest wanted.name known.name c.args.best c.requires
    (far-apart wanted.name known.name wanted.counts.items known.counts.items wanted.counted known.counted
    (subst (λ counts. AreApart counts known.counts.items) c.deref.ensures.value
    (subst (λ others. AreApart c.deref.result.now others) c.deref-2.ensures.value (c.are_apart.ensures c.if-are_apart.true))))
