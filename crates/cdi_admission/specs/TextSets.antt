-- Sets of texts.
use Rattle.std.specs.Prelude.{◌≡◌, ℕ, Bool, List}
use Rattle.std.specs.BTreeSet.{BTreeSet, contains_by}
use Rattle.std.specs.Borrow.{Bor}
use Rattle.std.specs.Cmp.Lexicographic.{slice_cmp}
use Rattle.std.specs.Ordering.{nat_cmp}
use Rattle.cdi_uses.specs.Twice.{is_text_among}

-- the set has the text
abbrev pub has_text : BTreeSet (Bor (List ℕ)) → List ℕ → Bool
has_text set text = contains_by (λ t. slice_cmp nat_cmp text t.now) set

-- the set has these texts and no other
abbrev pub HasTexts : BTreeSet (Bor (List ℕ)) → List (List ℕ) → Type 0
HasTexts set texts = (text : List ℕ) → has_text set text ≡ is_text_among texts text
