use Rattle.cdi_index.proofs.Common.{◌≡◌, ◌++◌, flat_map, words_of_record, take}
use Rattle.cdi_index.proofs.making.push_words_of_records.Given as goal

abbrev pub invariant-loop-record : goal.invariant-loop-record
invariant-loop-record l = l.words.items ≡ l.fn.words.items ++ flat_map words_of_record (take l.record-index l.records)
