use Rattle.cdi_live.proofs.Common.{◌≡◌, false, list_any, take}
use Rattle.cdi_live.specs.Compared.{is_moved}
use Rattle.cdi_live.proofs.interceptor_moves.moves_interceptors.Given as goal

abbrev pub invariant-loop-key : goal.invariant-loop-key
invariant-loop-key l = list_any (is_moved l.index.decls l.next l.edited) (take l.key-index l.affected) ≡ false
