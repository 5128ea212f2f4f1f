use Rattle.cdi_index.proofs.Common.{◌≡◌, map, name_of_use, ◌++◌, word_at, take}
use Rattle.cdi_index.proofs.making.push_use_words.Given as goal

abbrev pub invariant-loop-qual : goal.invariant-loop-qual
invariant-loop-qual l = l.words.items ≡ l.fn.words.items ++ map (λ u. word_at l.reason (name_of_use u)) (take l.qual-index l.uses)
