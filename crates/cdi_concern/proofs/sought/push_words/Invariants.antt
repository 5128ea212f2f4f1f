use Rattle.std.proofs.Common.{◌≡◌, ◌++◌, map, take}
use Rattle.cdi_postings.specs.Words.{word_at}
use Rattle.cdi_concern.proofs.sought.push_words.Given as goal

abbrev pub invariant-loop-name : goal.invariant-loop-name
invariant-loop-name l = l.words.items ≡ l.fn.words.items ++ map (word_at l.reason) (take l.name-index l.names)
