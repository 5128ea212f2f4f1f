-- The edges that leave each node.
use Rattle.std.specs.Prelude.{◌≡◌, ℕ, List, [], Some, Vec, get_or, map, slice_get}
use Rattle.std.specs.Borrow.{Bor}
use Rattle.std.specs.Global.{Global}
use Rattle.cdi_ways.specs.declared.edge.Edge.{Edge}

-- those at a node, of positions for each node in order
abbrev pub at_node : List (List ℕ) → ℕ → List ℕ
at_node each node = get_or each node []

abbrev pub leaving_at : List (Vec ℕ Global) → ℕ → List ℕ
leaving_at leaving node = at_node (map (λ positions. positions.items) leaving) node

-- those that are left at a node
abbrev pub left_at : List (Bor (List ℕ)) → ℕ → List ℕ
left_at left node = at_node (map (λ positions. positions.now) left) node

-- the edge at a position leaves a node
abbrev pub Leaves : List Edge → ℕ → ℕ → Type 0
Leaves edges node p = (e : Edge) × (slice_get edges p ≡ Some e) × (e.from ≡ node)

-- a list has a position
abbrev pub Has : List ℕ → ℕ → Type 0
Has ps p = (j : ℕ) × (slice_get ps j ≡ Some p)

-- at each node are the positions of edges that leave it, and of all of them
pub record AreLeaving (edges : List Edge) (at : ℕ → List ℕ) : Type 0 where
  pub right : (node p : ℕ) → Has (at node) p → Leaves edges node p
  pub whole : (node p : ℕ) → Leaves edges node p → Has (at node) p

abbrev pub HoldsLeaving : List Edge → List (Vec ℕ Global) → Type 0
HoldsLeaving edges leaving = AreLeaving edges (leaving_at leaving)
