use Rattle.std.proofs.Common.{◌≡◌, ◌++◌, filter, map, string_bytes}
use Rattle.std.specs.HashMap.{keys}
use Rattle.cdi_differences.specs.Differences.{compared, differing, differs, is_new, shown}
use Rattle.cdi_differences.proofs.table.list_of.Given as goal

abbrev pub invariant-loop-key : goal.invariant-loop-key
invariant-loop-key l = map shown l.list.items
    ++ filter differs (map (λ k. compared l.before l.after (string_bytes k)) l.key-iterator)
    ≡ filter differs (map (λ k. compared l.before l.after (string_bytes k)) (keys l.before))

abbrev pub invariant-loop-key-2 : goal.invariant-loop-key-2
invariant-loop-key-2 l = map shown l.list.items
    ++ filter is_new (map (λ k. compared l.before l.after (string_bytes k)) l.key-iterator)
    ≡ differing l.before l.after
