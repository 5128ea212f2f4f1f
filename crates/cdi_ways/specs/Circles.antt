-- Of which nodes it is known whether they are on circles.
use Rattle.std.specs.Prelude.{◌≡◌, ◌≢◌, ◌⊎◌, ◌+◌, ◌≤◌, ◌<◌, ℕ, nat_eq, Bool, true, false, List, Option, Some, length, slice_get, sum_by}
use Rattle.std.specs.Prelude.{if◌then◌else◌}
use Rattle.cdi_ways.specs.declared.edge.Edge.{Edge}
use Rattle.cdi_ways.specs.declared.states.State.{State}
use Rattle.cdi_ways.specs.declared.states.State.TheVariants.{Unknown, Ahead, OnCircle}
use Rattle.cdi_ways.specs.declared.states.States.{States}
use Rattle.cdi_ways.specs.Leaving.{Has}
use Rattle.cdi_ways.specs.Ways.{IsOnCircle, IsWay}

-- the edge turned round
abbrev pub turn : Edge → Edge
turn e = record { from = e.to; to = e.from }

-- some way of one edge or more leads from a node to a node
abbrev pub Leads : List Edge → ℕ → ℕ → Type 0
Leads edges a b = (ps : List ℕ) × ((1 ≤ length ps) × IsWay edges a b ps)

-- ---- states

abbrev pub is_on_circle : State → Bool
is_on_circle OnCircle = true
is_on_circle state = false

-- how many searches may come to a node yet
abbrev pub searches_left : State → ℕ
searches_left Unknown = 2
searches_left Ahead = 1
searches_left state = 0

-- the state of a node below their number
abbrev pub state_of : States → ℕ → Option State
state_of states node = slice_get states.each.items node

abbrev pub all_left : States → ℕ
all_left states = sum_by searches_left states.each.items

-- a node was in one state, and is in another; the others stay as they were
pub record Changes (node : ℕ) (from to : State) (old new : States) : Type 0 where
  pub was : state_of old node ≡ Some from
  pub now : (n : ℕ) → state_of new n ≡ (if nat_eq node n then Some to else state_of old n)
  pub left : all_left new + searches_left from ≡ all_left old + searches_left to

abbrev pub Stays : ℕ → State → States → States → Type 0
Stays node from old new = (state_of old node ≢ Some from) × (new ≡ old)

-- ---- searches

-- A search from a node changed the state of nodes, and listed them after that node. The nodes before a place are taken: no edge leads
-- from one of them to a node that is still in the first state.
pub record IsReached (edges : List Edge) (start : ℕ) (from to : State) (old new : States) (reached : List ℕ) (place : ℕ) : Type 0 where
  pub begun : slice_get reached 0 ≡ Some start
  pub changed : (n : ℕ) → (state_of new n ≡ state_of old n)
      ⊎ ((state_of old n ≡ Some from) × (state_of new n ≡ Some to) × Leads edges start n × Has reached n)
  pub ways : (n : ℕ) → Has reached n → (ps : List ℕ) × IsWay edges start n ps
  pub taken : (i : ℕ) → i < place → (p : ℕ) (e : Edge) → slice_get reached i ≡ Some e.from → slice_get edges p ≡ Some e
      → state_of new e.to ≢ Some from

-- all that were reached are taken
abbrev pub Reaches : List Edge → ℕ → State → State → States → States → List ℕ → Type 0
Reaches edges start from to old new reached = IsReached edges start from to old new reached (length reached)

-- ---- what is known

-- Of the nodes of which it is known whether they are on circles, those that are have the state for it. Of nodes that are on a circle
-- together it is known of all, or of none.
pub record IsSettled (edges : List Edge) (states : States) : Type 0 where
  pub right : (n : ℕ) → state_of states n ≡ Some OnCircle → IsOnCircle edges n
  pub all : (n : ℕ) → IsOnCircle edges n → (state_of states n ≡ Some Unknown) ⊎ (state_of states n ≡ Some OnCircle)
  pub whole : (n m : ℕ) → state_of states n ≡ Some Unknown → Leads edges n m → Leads edges m n → state_of states m ≡ Some Unknown
  pub still : (n : ℕ) → state_of states n ≢ Some Ahead

-- it is known of a node, and still of all of which it was
pub record Knows (node : ℕ) (old new : States) : Type 0 where
  pub known : state_of new node ≢ Some Unknown
  pub fewer : (n : ℕ) → state_of new n ≡ Some Unknown → state_of old n ≡ Some Unknown

-- those of some nodes to which a search has come are unknown again
pub record GivesBack (nodes : List ℕ) (old new : States) : Type 0 where
  pub kept : (n : ℕ) → (state_of new n ≡ state_of old n) ⊎ ((state_of old n ≡ Some Ahead) × (state_of new n ≡ Some Unknown))
  pub none : (n : ℕ) → Has nodes n → state_of new n ≢ Some Ahead
