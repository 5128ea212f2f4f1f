use Rattle.cdi_observe.proofs.Common.{◌≡◌, ◌++◌, map, take}
use Rattle.cdi_observe.proofs.records.push_records.Given as goal

abbrev pub invariant-loop-bean : goal.invariant-loop-bean
invariant-loop-bean l = map (λ bean. bean.now) l.list.items ≡ map (λ bean. bean.now) l.fn.list.items ++ take l.bean-index l.records
