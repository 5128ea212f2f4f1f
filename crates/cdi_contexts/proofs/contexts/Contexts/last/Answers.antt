use Rattle.cdi_contexts.proofs.Last.{lives_if}
use Rattle.cdi_contexts.proofs.contexts.Contexts.last.Goals as goal

pub returns-clause-lives : goal.returns-clause-lives
returns-clause-lives c =
    let lives = lives_if c.self.inside.given c.args.scope c.self.inside.live.items _ c.self.invariant.0 in
    rw (← c.self.view_is) (lives (rw (← c.deref.ensures.value) c.last_in_among.ensures))
