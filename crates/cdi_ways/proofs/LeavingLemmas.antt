-- One more edge among those that leave nodes.
use Rattle.cdi_ways.proofs.Common.{◌≡◌, ◌+◌, ◌-◌, ◌<◌, ℕ, zero, suc, nat_eq, List, [], ◌∷◌, ◌++◌, cond, get_or, length, map, inl, inr, refl}
use Rattle.cdi_ways.proofs.Common.{ap, sym, subst, ◌∙◌, arith, slice_get, eqb_tells, cases_lt, none-some, same_Some, at-front, at-joined}
use Rattle.cdi_ways.proofs.Common.{Edge, at_node, common_steps, slice_get_cases, Has, leaving_at, Leaves}
use Rattle.std.proofs.Common.{set}
use Rattle.std.proofs.Common.{get_or-set_other, get_or-set_same}
use Rattle.std.proofs.Common.{Vec, Global}
use Rattle.std.specs.{Borrow.Bor, List.sum_by}
use Rattle.std.proofs.lemmas.{Bool.eq-eqb, List.get_or-map, List.length-map, List.map-set, List.Sums.sum_by-set}
use Rattle.cdi_ways.proofs.ListLemmas.{at_second}

abbrev pub AreRight : List Edge → (ℕ → List ℕ) → Type 0
AreRight edges at = (node p : ℕ) → Has (at node) p → Leaves edges node p

abbrev pub AreWholeBelow : List Edge → (ℕ → List ℕ) → ℕ → Type 0
AreWholeBelow edges at end = (node p : ℕ) → p < end → Leaves edges node p → Has (at node) p

-- a position is put at a node
abbrev pub Puts : ℕ → ℕ → (ℕ → List ℕ) → (ℕ → List ℕ) → Type 0
Puts node p at at' = (n : ℕ) → at' n ≡ cond (nat_eq node n) (at n ++ p ∷ []) (at n)

pub has_only : (q p : ℕ) → Has (q ∷ []) p → q ≡ p
has_only q p (zero, h) = same_Some q p h
has_only q p (suc j, h) = absurd (none-some p h)

pub put_right : (edges : List Edge) (at at' : ℕ → List ℕ) (from p : ℕ) → Puts from p at at' → Leaves edges from p
    → AreRight edges at → AreRight edges at'
put_right edges at at' from p puts leaves right = λ node q has. elim (eqb_tells from node) [
  | inl same ↦
      let now : at' node ≡ at node ++ p ∷ [] = puts node ∙ ap (λ b. cond b (at node ++ p ∷ []) (at node)) same.0 in
      elim (at-joined (at node) (p ∷ []) has.0 q (sym (ap (λ ps. slice_get ps has.0) now) ∙ has.1)) [
        | inl old ↦ right node q (has.0, old)
        | inr new ↦ subst (λ n. Leaves edges n q) same.1 (subst (λ r. Leaves edges from r) (has_only p q (new.0, new.2)) leaves)
      ]
  | inr other ↦
      let now : at' node ≡ at node = puts node ∙ ap (λ b. cond b (at node ++ p ∷ []) (at node)) other.0 in
      right node q (subst (λ ps. Has ps q) now has)
]

has_more : (at at' : ℕ → List ℕ) (from p node q : ℕ) → Puts from p at at' → Has (at node) q → Has (at' node) q
has_more at at' from p node q puts has = elim (eqb_tells from node) [
  | inl same ↦
      let now : at' node ≡ at node ++ p ∷ [] = puts node ∙ ap (λ b. cond b (at node ++ p ∷ []) (at node)) same.0 in
      subst (λ ps. Has ps q) (sym now) (has.0, at-front (at node) (p ∷ []) has.0 q has.1)
  | inr other ↦
      let now : at' node ≡ at node = puts node ∙ ap (λ b. cond b (at node ++ p ∷ []) (at node)) other.0 in
      subst (λ ps. Has ps q) (sym now) has
]

has_put : (at at' : ℕ → List ℕ) (from p : ℕ) → Puts from p at at' → Has (at' from) p
has_put at at' from p puts =
    let now : at' from ≡ at from ++ p ∷ [] = puts from ∙ ap (λ b. cond b (at from ++ p ∷ []) (at from)) (eq-eqb from from refl) in
    subst (λ ps. Has ps p) (sym now) (length (at from), at_second (at from) (p ∷ []) (length (at from)) 0 p (omega arith) refl)

-- an edge leaves one node
pub leaves_one : (edges : List Edge) (m n p : ℕ) → Leaves edges m p → Leaves edges n p → m ≡ n
leaves_one edges m n p one two =
    sym one.2 ∙ ap (λ e. e.from) (same_Some one.0 two.0 (sym one.1 ∙ two.1)) ∙ two.2

pub put_whole : (edges : List Edge) (at at' : ℕ → List ℕ) (from p : ℕ) → Puts from p at at' → Leaves edges from p
    → AreWholeBelow edges at p → AreWholeBelow edges at' (p + 1)
put_whole edges at at' from p puts leaves whole = λ node q below other. elim (cases_lt q p) [
  | inl before ↦ has_more at at' from p node q puts (whole node q before other)
  | inr not_before ↦
      let same : p ≡ q = omega (arith, below, not_before) in
      subst (λ r. Has (at' node) r) same (subst (λ n. Has (at' n) p)
      (leaves_one edges from node p leaves (subst (λ r. Leaves edges node r) (sym same) other)) (has_put at at' from p puts))
]

-- ---- positions for each node

pub set_at : (each : List (List ℕ)) (node n : ℕ) (ps : List ℕ) → node < length each
    → at_node (set each node ps) n ≡ cond (nat_eq node n) ps (at_node each n)
set_at each node n ps within = elim (eqb_tells node n) [
  | inl same ↦
      ap (λ m. get_or (set each node ps) m []) (sym same.1) ∙ get_or-set_same each node ps [] within
      ∙ ap (λ b. cond b ps (at_node each n)) (sym same.0)
  | inr other ↦
      get_or-set_other each node n ps [] (λ e. other.1 (sym e)) ∙ ap (λ b. cond b ps (at_node each n)) (sym other.0)
]

-- what is read at a node
pub leaving_read : (leaving : List (Vec ℕ Global)) (node : ℕ) (positions : Vec ℕ Global) → node < length leaving
    → positions ≡ get_or leaving node positions → leaving_at leaving node ≡ positions.items
leaving_read leaving node positions within read =
    get_or-map (λ each. each.items) leaving node positions [] within ∙ ap (λ each. each.items) (sym read)

-- none is past the last node
pub leaving_within : (leaving : List (Vec ℕ Global)) (node p : ℕ) → Has (leaving_at leaving node) p → node < length leaving
leaving_within leaving node p has = grind (arith, common_steps, slice_get_cases (leaving_at leaving node) has.0)

-- a value is put in place of one at a node
pub set_mapped : {X : Type 0} (positions : X → List ℕ) (xs : List X) (node n : ℕ) (x : X) → node < length xs
    → at_node (map positions (set xs node x)) n ≡ cond (nat_eq node n) (positions x) (at_node (map positions xs) n)
set_mapped positions xs node n x within =
    let as_many : length (map positions xs) ≡ length xs = length-map xs positions in
    ap (λ each. at_node each n) (map-set positions xs node x)
    ∙ set_at (map positions xs) node n (positions x) (omega (arith, as_many, within))

-- what is read at a node has a position more
pub more_at : (old mid : ℕ → List ℕ) (here : List ℕ) (node n p : ℕ) → ((m : ℕ) → mid m ≡ old m) → here ≡ mid node ++ p ∷ []
    → cond (nat_eq node n) here (mid n) ≡ cond (nat_eq node n) (old n ++ p ∷ []) (old n)
more_at old mid here node n p same is = elim (eqb_tells node n) [
  | inl one ↦
      ap (λ b. cond b here (mid n)) one.0 ∙ is ∙ ap (λ ps. ps ++ p ∷ []) (ap mid one.1 ∙ same n)
      ∙ ap (λ b. cond b (old n ++ p ∷ []) (old n)) (sym one.0)
  | inr other ↦ ap (λ b. cond b here (mid n)) other.0 ∙ same n ∙ ap (λ b. cond b (old n ++ p ∷ []) (old n)) (sym other.0)
]

-- where nothing is left at a node, so many positions more are taken
pub fewer_left : (left : List (Bor (List ℕ))) (node steps : ℕ) (none here : Bor (List ℕ)) → node < length left
    → here ≡ get_or left node here
    → none.now ≡ [] → sum_by (λ ps. length ps.now) (set left node none) + steps + (length here.now - 0)
    ≡ sum_by (λ ps. length ps.now) left + steps
fewer_left left node steps none here within is empty = omega (
  arith,
  sum_by-set (λ (ps : Bor (List ℕ)). length ps.now) left node none here within,
  ap (λ (ps : Bor (List ℕ)). length ps.now) is,
  ap length empty,
)
