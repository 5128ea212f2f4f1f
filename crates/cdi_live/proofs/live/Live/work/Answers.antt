use Rattle.cdi_live.proofs.Common.{subst, KnownAreWanted}
use Rattle.cdi_live.proofs.KnownLemmas.{known-wanted}
use Rattle.cdi_live.proofs.live.Live.work.Goals as goal

pub returns-clause-wanted : goal.returns-clause-wanted
returns-clause-wanted c =
    subst KnownAreWanted c.self.view_is (known-wanted c.self.inside.index.decls c.self.inside.memos c.self.invariant.kept.asked)
