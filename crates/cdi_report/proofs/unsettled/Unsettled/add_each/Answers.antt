use Rattle.cdi_report.proofs.Common.{refl, ap, Together}
use Rattle.cdi_report.proofs.TogetherLemmas.{settled_anyway}
use Rattle.cdi_report.proofs.unsettled.Unsettled.add_each.Goals as goal

pub returns : goal.returns
returns c = settled_anyway _ (λ k. refl) (ap (λ (t : Together). t.names) c.all-self.ensures)
    (ap (λ (t : Together). t.circles) c.all-self.ensures)
    (ap (λ (t : Together). t.chains) c.all-self.ensures)
