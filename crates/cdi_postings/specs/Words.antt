-- When two words are one.
use Rattle.std.specs.Prelude.{ℕ, ◌+◌, List, nat_eq, Bool}
use Rattle.std.specs.Cmp.{IsEquivalence}
use Rattle.std.specs.Cmp.Lexicographic.{pointwise}
use Rattle.std.specs.Cmp.Rules.{comparing}
use Rattle.std.specs.Ordering.{on, eq_of_both}
use Rattle.std.proofs.Common.{rules}
use Rattle.cdi_model.specs.DeclKey.{kind_number}
use Rattle.cdi_postings.specs.declared.word.Reason.{Reason}
use Rattle.cdi_postings.specs.declared.word.Reason.TheVariants as reasons
use Rattle.cdi_postings.specs.declared.word.Word.{Word}

-- its place among the reasons
abbrev pub reason_number : Reason → ℕ
reason_number (reasons.RestsOn kind) = kind_number kind
reason_number reasons.HasType = 6
reason_number reasons.HasName = 7
reason_number reasons.Replaces = 8
reason_number reasons.Observes = 9
reason_number reasons.Asks = 10
reason_number reasons.Qualifies = 11
reason_number reasons.Fires = 12
reason_number reasons.Binds = 13
reason_number reasons.Intercepts = 20
reason_number reasons.HasTypeAsAlternative = 21
reason_number (reasons.Writes kind) = 14 + kind_number kind

-- the words have one reason and one name
abbrev pub same_word : Word → Word → Bool
same_word = eq_of_both (on (λ w. reason_number w.reason) nat_eq) (on (λ w. w.name) (pointwise nat_eq))

pub same_word_equiv : IsEquivalence same_word
same_word_equiv = search (comparing, rules)

abbrev pub word_at : Reason → List ℕ → Word
word_at reason name = record { reason = reason; name = name }
