-- Ways along edges.
use Rattle.std.specs.Prelude.{◌≡◌, ◌≤◌, ℕ, List, [], ◌∷◌, Some, length, slice_get}
use Rattle.cdi_ways.specs.declared.edge.Edge.{Edge}

-- the edges at some positions follow each other, from a node to a node
abbrev pub IsWay : List Edge → ℕ → ℕ → List ℕ → Type 0
IsWay edges a b [] = a ≡ b
IsWay edges a b (p ∷ ps) = (e : Edge) × (slice_get edges p ≡ Some e) × (e.from ≡ a) × IsWay edges e.to b ps

-- a way of one edge or more leads from a node back to it
abbrev pub IsCircle : List Edge → ℕ → List ℕ → Type 0
IsCircle edges node ps = (1 ≤ length ps) × IsWay edges node node ps

abbrev pub HasNoCircle : List Edge → ℕ → Type 0
HasNoCircle edges node = (ps : List ℕ) → IsCircle edges node ps → ⊥

-- no way back has fewer edges
abbrev pub IsShortest : List Edge → ℕ → List ℕ → Type 0
IsShortest edges node ps = (others : List ℕ) → IsCircle edges node others → length ps ≤ length others

-- some way of one edge or more leads from a node back to it
abbrev pub IsOnCircle : List Edge → ℕ → Type 0
IsOnCircle edges node = (ps : List ℕ) × IsCircle edges node ps
