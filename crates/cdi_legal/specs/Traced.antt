-- What is kept of the entries of a command.
use Rattle.std.specs.Prelude.{ℕ, List, ◌++◌, map}
use Rattle.std.specs.Global.{Global}
use Rattle.std.specs.List.{flat_map}
use Rattle.std.specs.declared.vec.Vec.{Vec}
use Rattle.cdi_legal.specs.Packed.{entry_of}
use Rattle.cdi_legal.specs.declared.entry.Entry.{Entry}
use Rattle.cdi_legal.specs.declared.packed.Packed.{Packed}

-- the entries, in order, and how many more need no memory
pub record Traced : Type 0 where
  pub entries : List Entry
  pub room : ℕ

-- the entries in some blocks and in the last one
abbrev pub kept_in : List (Vec Packed Global) → List Packed → List Entry
kept_in blocks last = map entry_of (flat_map (λ block. block.items) blocks ++ last)
