use Rattle.std.proofs.Common.{◌≡◌, ◌++◌, take}
use Rattle.cdi_concern.specs.Concern.{words_writing}
use Rattle.cdi_concern.proofs.sought.push_words_writing.Given as goal

abbrev pub invariant-loop-key : goal.invariant-loop-key
invariant-loop-key l = l.words.items ≡ l.fn.words.items ++ words_writing (take l.key-index l.keys)
