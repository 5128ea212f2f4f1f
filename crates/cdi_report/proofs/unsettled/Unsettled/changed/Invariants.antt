use Rattle.cdi_report.proofs.Common.{◌≡◌, map, filter, take, key_of, is_changed}
use Rattle.cdi_report.proofs.unsettled.Unsettled.changed.Given as goal

abbrev pub invariant-loop-decl : goal.invariant-loop-decl
invariant-loop-decl l = map (λ d. d.now) l.list.items ≡ filter (λ d. is_changed l.self (key_of d)) (map (λ d. d.now) (take l.decl-index l.decls))
