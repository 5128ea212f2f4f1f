use Rattle.cdi_container.proofs.Common.{subst, sym, knows, AreSettled}
use Rattle.cdi_container.proofs.KeepingLemmas.{settled_committed}
use Rattle.cdi_container.proofs.edited.take_over.Goals as goal

pub returns-then-is_readied-clause-settled : goal.returns-then-is_readied-clause-settled
returns-then-is_readied-clause-settled c = λ book settled.
    let live = c.commit.new.self in
    let committed = settled_committed c.args.live.now live book c.args.unsettled.now
    c.decls.ensures.distinct c.decls-then-is_readied.ensures.distinct
    (c.requires.readied c.if-is_readied.true) c.commit.ensures.commits settled in
    subst (λ ds. AreSettled ds (knows live) book c.forget_gone.new.self) c.decls-then-is_readied.ensures.value
    (c.forget_gone.ensures.settled (knows live) book
    (subst (λ ds. AreSettled ds (knows live) book c.args.unsettled.now) (sym c.decls-then-is_readied.ensures.value) committed))

pub returns-else-is_readied-clause-settled : goal.returns-else-is_readied-clause-settled
returns-else-is_readied-clause-settled c = λ book settled.
    c.add_each.ensures c.commit.new.self.decls (knows c.commit.new.self) book
