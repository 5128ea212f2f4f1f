use Rattle.std.proofs.Common.{◌≡◌, drop}
use Rattle.cdi_match.specs.Bindings.{uses_in}
use Rattle.cdi_intercept.specs.Chains.{covered_in}
use Rattle.cdi_explain.proofs.interceptors.is_covered.Given as goal

abbrev pub invariant-loop-have : goal.invariant-loop-have
invariant-loop-have l = covered_in l.decls (uses_in (drop l.have-index l.set)) l.want ≡ covered_in l.decls (uses_in l.set) l.want
