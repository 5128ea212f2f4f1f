use Rattle.cdi_live.proofs.Common.{◌≡◌, flat_map, map, take, enabled_in, lent_in}
use Rattle.cdi_live.proofs.interceptors.enabled_among.Given as goal

abbrev pub invariant-loop-decl : goal.invariant-loop-decl
invariant-loop-decl l = lent_in l.list.items ≡ flat_map enabled_in (map (λ d. d.now) (take l.decl-index l.decls))
