use Rattle.cdi_index.proofs.Common.{◌≡◌, ◌++◌, flat_map, mentions, words_written_in}
use Rattle.cdi_index.proofs.making.push_written_words.Given as goal

abbrev pub invariant-loop-mention : goal.invariant-loop-mention
invariant-loop-mention l =
    l.words.items ++ flat_map words_written_in l.mention-iterator ≡ l.fn.words.items ++ flat_map words_written_in (mentions l.decl)
