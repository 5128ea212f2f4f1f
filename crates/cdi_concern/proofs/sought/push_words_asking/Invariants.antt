use Rattle.std.proofs.Common.{◌≡◌, ◌++◌, take}
use Rattle.cdi_concern.specs.Concern.{words_asking}
use Rattle.cdi_concern.proofs.sought.push_words_asking.Given as goal

abbrev pub invariant-loop-class : goal.invariant-loop-class
invariant-loop-class l =
    l.words.items ≡ l.fn.words.items ++ words_asking l.index.decls (take l.class-index l.classes)
