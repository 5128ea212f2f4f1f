-- A tree of subjects by their texts.
use Rattle.std.specs.Prelude.{ℕ, List, map, Vec}
use Rattle.std.specs.Global.{Global}
use Rattle.std.specs.BTreeMap.{BTreeMap}
use Rattle.cdi_faults.specs.declared.fault.Subject.{Subject}

abbrev pub TextTree : Type 0
TextTree = BTreeMap (Vec ℕ Global) Subject

-- its subjects, each behind its text
abbrev pub entries_in : TextTree → List (List ℕ × Subject)
entries_in tree = map (λ entry. (entry.0.items, entry.1)) tree.entries
