use Rattle.std.proofs.Common.{◌≡◌, ◌||◌, take}
use Rattle.cdi_model.specs.{declared.key.DeclKey.DeclKey, Edits.is_among}
use Rattle.cdi_concern.specs.Concern.{reads_one}
use Rattle.cdi_concern.proofs.keys.push_keys_of_readers.Given as goal

abbrev pub invariant-loop-key : goal.invariant-loop-key
invariant-loop-key l = (k : DeclKey) → is_among l.keys.items k
    ≡ (is_among l.fn.keys.items k || reads_one l.index.decls (take l.key-index l.affected) k)
