use Rattle.cdi_live.proofs.Common.{◌≡◌, words_edited, take}
use Rattle.cdi_live.proofs.users.words_edited.Given as goal

abbrev pub invariant-loop-key : goal.invariant-loop-key
invariant-loop-key l = l.words.items ≡ words_edited (take l.key-index l.edited)
