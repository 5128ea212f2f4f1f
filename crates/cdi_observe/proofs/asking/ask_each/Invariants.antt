use Rattle.cdi_observe.proofs.Common.{◌≡◌, true, map, take, list_all, evaluated, asked_key}
use Rattle.cdi_observe.proofs.asking.ask_each.Given as goal

abbrev pub invariant-loop-key : goal.invariant-loop-key
invariant-loop-key g l = record {
  same : g.V.View.list l.view ≡ g.V.View.list l.fn.view;
  counts : g.V.View.counts l.view ≡ g.V.View.counts l.fn.view;
  now : g.V.View.kept l.view ≡ evaluated (g.V.View.list l.fn.view) (take l.key-index (map asked_key l.keys)) (g.V.View.kept l.fn.view);
  staged : list_all (g.V.View.kept l.fn.view).knows (map asked_key l.keys) ≡ true → g.V.View.staged l.view ≡ g.V.View.staged l.fn.view;
}
