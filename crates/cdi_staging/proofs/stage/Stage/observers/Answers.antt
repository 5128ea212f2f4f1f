use Rattle.cdi_staging.proofs.Common.{Contains, sym, subst}
use Rattle.cdi_staging.proofs.stage.Stage.observers.Goals as goal

pub staged_observer-requires-clause-observer : goal.staged_observer-requires-clause-observer
staged_observer-requires-clause-observer g c =
    subst (λ list. Contains list c.observer-item.result) c.as_slice-observer-items.ensures
    (c.loop-observer.observer-index, c.loop-observer-test.true, sym c.observer-item.is)
