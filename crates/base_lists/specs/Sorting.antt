-- Lists put in order, where those that neither comes before keep theirs.
use Rattle.std.specs.Prelude.{Bool, cond, List, [], ◌∷◌}

-- x among some in order: ahead of the first that does not come before it
abbrev pub put : {X : Type 0} → (X → X → Bool) → X → List X → List X
put before x [] = x ∷ []
put before x (y ∷ ys) = cond (before y x) (y ∷ put before x ys) (x ∷ y ∷ ys)

abbrev pub sorted_by : {X : Type 0} → (X → X → Bool) → List X → List X
sorted_by before [] = []
sorted_by before (x ∷ xs) = put before x (sorted_by before xs)
