use Rattle.cdi_live.proofs.Common.{◌≡◌, words_bound, take}
use Rattle.cdi_match.specs.Bindings.{uses_in}
use Rattle.cdi_live.proofs.interceptors.words_bound.Given as goal

abbrev pub invariant-loop-binding : goal.invariant-loop-binding
invariant-loop-binding l = l.words.items ≡ words_bound (uses_in (take l.binding-index l.uses))
