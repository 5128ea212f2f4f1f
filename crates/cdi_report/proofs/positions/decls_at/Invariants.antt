use Rattle.cdi_report.proofs.Common.{◌≡◌, ◌++◌, map, flat_map, marked_from, decls_at}
use Rattle.cdi_report.proofs.positions.decls_at.Given as goal

abbrev pub invariant-loop-position : goal.invariant-loop-position
invariant-loop-position l = map (λ d. d.now) l.list.items ++ flat_map (decls_at l.decls) l.position-iterator
    ≡ flat_map (decls_at l.decls) (marked_from 0 l.positions)
