use Rattle.cdi_index.proofs.Common.{◌≡◌, map, ◌++◌, word_at, drop}
use Rattle.cdi_index.proofs.making.push_words.Given as goal

abbrev pub invariant-loop-name : goal.invariant-loop-name
invariant-loop-name l =
    l.words.items ++ map (word_at l.reason) (drop l.name-index l.names) ≡ l.fn.words.items ++ map (word_at l.reason) l.names
