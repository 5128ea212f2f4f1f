use Rattle.cdi_index.proofs.Common.{◌≡◌, ◌++◌, flat_map, words_of_observer, take}
use Rattle.cdi_index.proofs.making.push_words_of_observers.Given as goal

abbrev pub invariant-loop-observer : goal.invariant-loop-observer
invariant-loop-observer l = l.words.items ≡ l.fn.words.items ++ flat_map words_of_observer (take l.observer-index l.observers)
