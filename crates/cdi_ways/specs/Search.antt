-- The search along edges, in breadth.
use Rattle.std.specs.Prelude.{◌≡◌, ◌≢◌, ◌⊎◌, ◌+◌, ◌≤◌, ◌<◌, ℕ, nat_eq, List, [], ◌++◌, map, Option, Some, None, length, slice_get, sum_by, if◌then◌else◌}
use Rattle.cdi_ways.specs.declared.edge.Edge.{Edge}
use Rattle.cdi_ways.specs.declared.search.Search.{Search}
use Rattle.cdi_ways.specs.declared.search.Step.{Step}
use Rattle.cdi_ways.specs.Leaving.{left_at, Has, Leaves}
use Rattle.cdi_ways.specs.Ways.{IsWay}

-- ---- steps

abbrev pub step_along : Option ℕ → ℕ → ℕ → Step
step_along before depth p = record { edge = p; before = before; depth = depth }

-- the step at a place
abbrev pub IsAt : List Step → ℕ → Step → Type 0
IsAt steps i s = slice_get steps i ≡ Some s

-- a step is after the one that it names, and has one edge more; a first step has one edge
abbrev pub IsAfter : List Step → ℕ → Option ℕ → ℕ → Type 0
IsAfter steps i None depth = depth ≡ 1
IsAfter steps i (Some j) depth = (t : Step) × IsAt steps j t × (j < i) × (depth ≡ t.depth + 1)

abbrev pub IsLinked : List Step → Type 0
IsLinked steps = (i : ℕ) (s : Step) → IsAt steps i s → IsAfter steps i s.before s.depth

-- where a step leads, or the start where there is none
abbrev pub LeadsTo : List Edge → ℕ → List Step → Option ℕ → ℕ → Type 0
LeadsTo edges start steps None node = node ≡ start
LeadsTo edges start steps (Some i) node = (s : Step) × (e : Edge) × IsAt steps i s × (slice_get edges s.edge ≡ Some e) × (node ≡ e.to)

-- the edge of each step leaves where the step before it leads
abbrev pub IsLed : List Edge → ℕ → List Step → Type 0
IsLed edges start steps = (i : ℕ) (s : Step) → IsAt steps i s
    → (e : Edge) × (slice_get edges s.edge ≡ Some e) × LeadsTo edges start steps s.before e.from

-- how many edges the way has that ends with a step
abbrev pub depth_of : Option Step → ℕ
depth_of None = 0
depth_of (Some s) = s.depth

abbrev pub depth_at : List Step → Option ℕ → ℕ
depth_at steps None = 0
depth_at steps (Some i) = depth_of (slice_get steps i)

-- the edges at some positions are those of the way that ends with a step
pub record IsWayTo (steps : List Step) (i : ℕ) (ps : List ℕ) : Type 0 where
  pub way : (edges : List Edge) (start node : ℕ) → IsLed edges start steps → LeadsTo edges start steps (Some i) node
      → IsWay edges start node ps
  pub edges : length ps ≡ depth_at steps (Some i)

-- ---- the search

-- how many edges are followed, or are left
abbrev pub edges_of : Search → ℕ
edges_of search = sum_by (λ positions. length positions.now) search.left.items + length search.steps.items

-- the edges that are left at a node are followed, and are left no more
pub record Follows (node : ℕ) (before : Option ℕ) (depth : ℕ) (old new : Search) : Type 0 where
  pub steps : new.steps.items ≡ old.steps.items ++ map (step_along before depth) (left_at old.left.items node)
  pub left : (n : ℕ) → left_at new.left.items n ≡ (if nat_eq node n then [] else left_at old.left.items n)
  pub edges : edges_of new ≡ edges_of old

-- a step follows an edge
abbrev pub IsFollowed : List Step → ℕ → Type 0
IsFollowed steps p = (i : ℕ) × (s : Step) × IsAt steps i s × (s.edge ≡ p)

-- steps of at most so many edges follow all edges that leave a node
abbrev pub AreFollowed : List Edge → List Step → ℕ → ℕ → Type 0
AreFollowed edges steps node most = (p : ℕ) → Leaves edges node p
    → (i : ℕ) × (s : Step) × IsAt steps i s × (s.edge ≡ p) × (s.depth ≤ most)

-- The steps before a place are taken: none of them leads to the start, and the edges that leave where they lead are followed.
-- Steps of fewer edges come first.
pub record IsSearch (edges : List Edge) (start : ℕ) (left : ℕ → List ℕ) (steps : List Step) (place : ℕ) : Type 0 where
  pub right : (node p : ℕ) → Has (left node) p → Leaves edges node p
  pub whole : (node p : ℕ) → Leaves edges node p → Has (left node) p ⊎ IsFollowed steps p
  pub linked : IsLinked steps
  pub led : IsLed edges start steps
  pub begun : AreFollowed edges steps start 1
  pub apart : (i : ℕ) (s : Step) (e : Edge) → i < place → IsAt steps i s → slice_get edges s.edge ≡ Some e → e.to ≢ start
  pub taken : (i : ℕ) (s : Step) (e : Edge) → i < place → IsAt steps i s → slice_get edges s.edge ≡ Some e
      → AreFollowed edges steps e.to (s.depth + 1)
  pub sorted : (i j : ℕ) (s t : Step) → i ≤ j → IsAt steps i s → IsAt steps j t → s.depth ≤ t.depth
  pub near : (i j : ℕ) (s t : Step) → place ≤ i → IsAt steps i s → IsAt steps j t → t.depth ≤ s.depth + 1
  pub small : (i : ℕ) (s : Step) → IsAt steps i s → s.depth ≤ i + 1

abbrev pub SearchesFrom : List Edge → ℕ → Search → ℕ → Type 0
SearchesFrom edges start search place = IsSearch edges start (left_at search.left.items) search.steps.items place
