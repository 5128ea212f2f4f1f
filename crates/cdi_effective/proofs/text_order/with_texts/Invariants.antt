use Rattle.cdi_effective.proofs.Common.{◌≡◌, drop, uses_in, ◌++◌, written_in}
use Rattle.cdi_effective.proofs.text_order.with_texts.Given as goal

abbrev pub invariant-loop-binding : goal.invariant-loop-binding
invariant-loop-binding l = written_in l.list.items ++ uses_in (drop l.binding-index l.uses) ≡ uses_in l.uses
