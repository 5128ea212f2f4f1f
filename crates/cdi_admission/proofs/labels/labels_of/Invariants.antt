use Rattle.std.proofs.Common.{◌≡◌, ◌++◌, map, drop}
use Rattle.cdi_admission.proofs.labels.labels_of.Given as goal

abbrev pub invariant-loop-item : goal.invariant-loop-item
invariant-loop-item g l = map (λ n. n.now) l.labels.items ++ map g.T.Labelled.label_of (drop l.item-index l.items)
    ≡ map g.T.Labelled.label_of l.items
