use Rattle.cdi_index.proofs.Common.{◌≡◌, map, ◌++◌, filter, take, is_sought}
use Rattle.cdi_index.proofs.under.push_sought.Given as goal

abbrev pub invariant-loop-record : goal.invariant-loop-record
invariant-loop-record l =
    map (λ bean. bean.now) l.list.items
    ≡ map (λ bean. bean.now) l.fn.list.items ++ filter (is_sought l.sought) (take l.record-index l.records)
