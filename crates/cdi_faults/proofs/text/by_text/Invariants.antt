use Rattle.std.proofs.Common.{◌≡◌, fold}
use Rattle.cdi_faults.proofs.OrderLemmas.{put}
use Rattle.cdi_faults.specs.{FaultText.by_text, TextTree.entries_in}
use Rattle.cdi_faults.proofs.text.by_text.Given as goal

abbrev pub invariant-loop-subject : goal.invariant-loop-subject
invariant-loop-subject l = fold put (entries_in l.tree) l.subject-iterator.rest.items ≡ by_text l.fn.subjects.items
