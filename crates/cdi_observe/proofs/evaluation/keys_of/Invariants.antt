use Rattle.cdi_observe.proofs.Common.{◌≡◌, map, flat_map, take, wanted_by, asked_key}
use Rattle.cdi_observe.proofs.evaluation.keys_of.Given as goal

abbrev pub invariant-loop-decl : goal.invariant-loop-decl
invariant-loop-decl l = map asked_key l.list.items ≡ flat_map wanted_by (map (λ d. d.now) (take l.decl-index l.decls))
