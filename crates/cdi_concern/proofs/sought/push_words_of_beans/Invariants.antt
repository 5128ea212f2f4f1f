use Rattle.std.proofs.Common.{◌≡◌, ◌++◌, map, take}
use Rattle.cdi_postings.specs.Words.{word_at}
use Rattle.cdi_postings.specs.declared.word.Reason.TheVariants as reasons
use Rattle.cdi_concern.specs.Concern.{types_of_beans}
use Rattle.cdi_concern.proofs.sought.push_words_of_beans.Given as goal

abbrev pub invariant-loop-bean : goal.invariant-loop-bean
invariant-loop-bean l =
    l.words.items ≡ l.fn.words.items ++ map (word_at reasons.Asks) (types_of_beans (take l.bean-index l.beans))
