-- What holds at each point of a trace, and of each of its entries.
use Rattle.std.specs.Prelude.{◌≡◌, List, ◌∷◌, ◌++◌}
use Rattle.cdi_contexts.specs.Standing.{Standing}
use Rattle.cdi_legal.specs.Follows.{after}
use Rattle.cdi_legal.specs.declared.entry.Entry.{Entry}

-- it holds before the first entry, between any two, and after the last
abbrev pub AtEachPoint : (List Entry → Type 0) → List Entry → Type 0
AtEachPoint P trace = (earlier later : List Entry) → trace ≡ earlier ++ later → P earlier

-- it holds of each entry, after those before it
abbrev pub AtEachEntry : (List Entry → Entry → Type 0) → List Entry → Type 0
AtEachEntry P trace = (earlier : List Entry) (entry : Entry) (later : List Entry) → trace ≡ earlier ++ entry ∷ later → P earlier entry

-- it holds of what stands at each point, where this stands before the first entry
abbrev pub Throughout : (Standing → Type 0) → Standing → List Entry → Type 0
Throughout P before trace = AtEachPoint (λ earlier. P (after before earlier)) trace
