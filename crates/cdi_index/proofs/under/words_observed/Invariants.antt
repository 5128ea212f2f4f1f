use Rattle.cdi_index.proofs.Common.{◌≡◌, map, ◌++◌, word_at, drop}
use Rattle.cdi_postings.specs.declared.word.Reason.TheVariants as reasons
use Rattle.cdi_index.proofs.under.words_observed.Given as goal

abbrev pub invariant-loop-event_type : goal.invariant-loop-event_type
invariant-loop-event_type l =
    l.words.items ++ map (word_at reasons.Observes) (drop l.event_type-index l.types) ≡ map (word_at reasons.Observes) l.types
