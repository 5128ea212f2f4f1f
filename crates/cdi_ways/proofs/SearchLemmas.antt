-- What the search keeps, and what it tells.
use Rattle.cdi_ways.proofs.Common.{◌≡◌, ◌⊎◌, ◌+◌, ◌≤◌, ◌<◌, ℕ, nat_eq, List, [], ◌∷◌, ◌++◌, cond, map, length, get_or, Option, Some, None}
use Rattle.cdi_ways.proofs.Common.{inl, inr, refl, ap, sym, subst, ◌∙◌, arith, slice_get, cases_lt, eqb_tells, none-some, same_Some}
use Rattle.cdi_ways.proofs.Common.{slice_get_within, at-front, Edge, Step, AreLeaving, Has, Leaves, depth_of, step_along, AreFollowed}
use Rattle.cdi_ways.proofs.Common.{IsAfter, IsAt, IsFollowed, IsLed, IsSearch, IsWayTo, LeadsTo, IsWay}
use Rattle.std.proofs.Common.{◌≢◌}
use Rattle.std.proofs.lemmas.Option.{get_or_from_slice_get}
use Rattle.cdi_ways.specs.{Search.IsLinked, Ways.HasNoCircle, Ways.IsCircle, Ways.IsShortest}
use Rattle.cdi_ways.proofs.{ListLemmas.at_within, LeavingLemmas.AreRight}
use Rattle.cdi_ways.proofs.StepLemmas.{after_more, all_followed_more, depth_positive, followed_more, leads_more, new_step, old_or_new, step_once, with_steps}

-- ---- what is left

-- none is left at a node, and what is left elsewhere stays
abbrev pub Clears : ℕ → (ℕ → List ℕ) → (ℕ → List ℕ) → Type 0
Clears node left left' = (n : ℕ) → left' n ≡ cond (nat_eq node n) [] (left n)

still_left : (node : ℕ) (left left' : ℕ → List ℕ) (n p : ℕ) → Clears node left left' → Has (left' n) p → Has (left n) p
still_left node left left' n p clears has = elim (eqb_tells node n) [
  | inl same ↦
      let none : left' n ≡ [] = clears n ∙ ap (λ b. cond b [] (left n)) same.0 in
      absurd (none-some p (ap (λ ps. slice_get ps has.0) (sym none) ∙ has.1))
  | inr other ↦ subst (λ ps. Has ps p) (clears n ∙ ap (λ b. cond b [] (left n)) other.0) has
]

left_or_cleared : (node : ℕ) (left left' : ℕ → List ℕ) (n p : ℕ) → Clears node left left' → Has (left n) p
    → Has (left' n) p ⊎ Has (left node) p
left_or_cleared node left left' n p clears has = elim (eqb_tells node n) [
  | inl same ↦ inr (subst (λ m. Has (left m) p) (sym same.1) has)
  | inr other ↦ inl (subst (λ ps. Has ps p) (sym (clears n ∙ ap (λ b. cond b [] (left n)) other.0)) has)
]

-- ---- the edges that leave a node are followed

abbrev AreWhole : List Edge → (ℕ → List ℕ) → List Step → Type 0
AreWhole edges left steps = (node p : ℕ) → Leaves edges node p → Has (left node) p ⊎ IsFollowed steps p

abbrev AreSorted : List Step → Type 0
AreSorted steps = (i j : ℕ) (s t : Step) → i ≤ j → IsAt steps i s → IsAt steps j t → s.depth ≤ t.depth

abbrev AreSmall : List Step → Type 0
AreSmall steps = (i : ℕ) (s : Step) → IsAt steps i s → s.depth ≤ i + 1

abbrev AreWithin : List Step → ℕ → Type 0
AreWithin steps depth = (i : ℕ) (s : Step) → IsAt steps i s → s.depth ≤ depth

right-follow : (edges : List Edge) (node : ℕ) (left left' : ℕ → List ℕ) → Clears node left left' → AreRight edges left
    → AreRight edges left'
right-follow edges node left left' clears right = λ n p has. right n p (still_left node left left' n p clears has)

whole-follow : (edges : List Edge) (steps : List Step) (o : Option ℕ) (depth node : ℕ) (left left' : ℕ → List ℕ) → Clears node left left'
    → AreWhole edges left steps → AreWhole edges left' (with_steps steps o depth (left node))
whole-follow edges steps o depth node left left' clears whole = λ n p leaves. elim (whole n p leaves) [
  | inl has ↦ elim (left_or_cleared node left left' n p clears has) [
    | inl stays ↦ inl stays
    | inr cleared ↦
        let new : (i : ℕ) × IsAt (with_steps steps o depth (left node)) i (step_along o depth p) = new_step steps o depth
        (left node) p cleared in
        inr (new.0, step_along o depth p, new.1, refl)
  ]
  | inr followed ↦ inr (followed_more steps (map (step_along o depth) (left node)) p followed)
]

linked-follow : (steps : List Step) (o : Option ℕ) (depth : ℕ) (ps : List ℕ)
    → ((i : ℕ) → length steps ≤ i → IsAfter steps i o depth) → IsLinked steps → IsLinked (with_steps steps o depth ps)
linked-follow steps o depth ps after linked = λ i t at. elim (old_or_new steps o depth ps i t at) [
  | inl old ↦ after_more steps (map (step_along o depth) ps) i t.before t.depth (linked i t old)
  | inr new ↦ subst (λ s. IsAfter (with_steps steps o depth ps) i s.before s.depth) (sym new.3)
      (after_more steps (map (step_along o depth) ps) i o depth (after i new.1))
]

led-follow : (edges : List Edge) (start : ℕ) (steps : List Step) (o : Option ℕ) (depth node : ℕ) (ps : List ℕ)
    → LeadsTo edges start steps o node → ((p : ℕ) → Has ps p → Leaves edges node p) → IsLed edges start steps
    → IsLed edges start (with_steps steps o depth ps)
led-follow edges start steps o depth node ps leads leaves led = λ i t at. elim (old_or_new steps o depth ps i t at) [
  | inl old ↦
      let edge : (e : Edge) × (slice_get edges t.edge ≡ Some e) × LeadsTo edges start steps t.before e.from = led i t old in
      (edge.0, edge.1, leads_more edges start steps (map (step_along o depth) ps) t.before edge.0.from edge.2)
  | inr new ↦
      let edge : Leaves edges node new.0 = leaves new.0 new.2 in
      subst (λ s. (e : Edge) × (slice_get edges s.edge ≡ Some e) × LeadsTo edges start (with_steps steps o depth ps) s.before e.from)
      (sym new.3) (
        edge.0,
        edge.1,
        leads_more edges start steps (map (step_along o depth) ps) o edge.0.from
            (subst (λ n. LeadsTo edges start steps o n) (sym edge.2) leads),
      )
]

sorted-follow : (steps : List Step) (o : Option ℕ) (depth : ℕ) (ps : List ℕ) → AreWithin steps depth → AreSorted steps
    → AreSorted (with_steps steps o depth ps)
sorted-follow steps o depth ps within sorted = λ i j s t le at_s at_t.
    elim (old_or_new steps o depth ps i s at_s) [
      | inl old ↦ elim (old_or_new steps o depth ps j t at_t) [
        | inl old' ↦ sorted i j s t le old old'
        | inr new' ↦ omega (arith, within i s old, ap (λ u. u.depth) new'.3)
      ]
      | inr new ↦ elim (old_or_new steps o depth ps j t at_t) [
        | inl old' ↦ absurd (omega (arith, new.1, le, slice_get_within steps j t old'))
        | inr new' ↦ omega (arith, ap (λ u. u.depth) new.3, ap (λ u. u.depth) new'.3)
      ]
    ]

within-follow : (steps : List Step) (o : Option ℕ) (depth : ℕ) (ps : List ℕ) → AreWithin steps depth
    → AreWithin (with_steps steps o depth ps) depth
within-follow steps o depth ps within = λ i t at. elim (old_or_new steps o depth ps i t at) [
  | inl old ↦ within i t old
  | inr new ↦ omega (arith, ap (λ u. u.depth) new.3)
]

small-follow : (steps : List Step) (o : Option ℕ) (depth : ℕ) (ps : List ℕ) → ((i : ℕ) → length steps ≤ i → depth ≤ i + 1)
    → AreSmall steps → AreSmall (with_steps steps o depth ps)
small-follow steps o depth ps low small = λ i t at. elim (old_or_new steps o depth ps i t at) [
  | inl old ↦ small i t old
  | inr new ↦ omega (arith, ap (λ u. u.depth) new.3, low i new.1)
]

-- all edges that leave the node are followed, by steps that are no deeper
followed-follow : (edges : List Edge) (steps : List Step) (o : Option ℕ) (depth node : ℕ) (left : ℕ → List ℕ) → AreWhole edges left steps
    → AreWithin steps depth → AreFollowed edges (with_steps steps o depth (left node)) node depth
followed-follow edges steps o depth node left whole within = λ p leaves. elim (whole node p leaves) [
  | inl has ↦
      let new : (i : ℕ) × IsAt (with_steps steps o depth (left node)) i (step_along o depth p) = new_step steps o depth (left node) p has in
      (new.0, step_along o depth p, new.1, refl, omega arith)
  | inr old ↦
      (old.0, old.1, at-front steps (map (step_along o depth) (left node)) old.0 old.1 old.2, old.3, within old.0 old.1 old.2)
]

-- ---- the first steps

pub search_begun : (edges : List Edge) (start : ℕ) (left left' : ℕ → List ℕ) → AreLeaving edges left → Clears start left left'
    → IsSearch edges start left' (with_steps [] None 1 (left start)) 0
search_begun edges start left left' leaving clears =
    let none : (i : ℕ) (s : Step) → IsAt [] i s → ⊥ = λ i s at. none-some s at in
    let whole : AreWhole edges left [] = λ n p leaves. inl (leaving.whole n p leaves) in
    let within : AreWithin [] 1 = λ i s at. absurd (none i s at) in
    let deep : AreWithin (with_steps [] None 1 (left start)) 1 = within-follow [] None 1 (left start) within in
    record {
      right = right-follow edges start left left' clears leaving.right;
      whole = whole-follow edges [] None 1 start left left' clears whole;
      linked = linked-follow [] None 1 (left start) (λ i le. refl) (λ i s at. absurd (none i s at));
      led = led-follow edges start [] None 1 start (left start) refl (leaving.right start) (λ i s at. absurd (none i s at));
      begun = followed-follow edges [] None 1 start left whole within;
      apart = λ i s e lt at is. absurd (omega (arith, lt));
      taken = λ i s e lt at is. absurd (omega (arith, lt));
      sorted = sorted-follow [] None 1 (left start) within (λ i j s t le at at'. absurd (none i s at));
      near = λ i j s t le at at'. omega (arith, deep j t at');
      small = small-follow [] None 1 (left start) (λ i le. omega arith) (λ i s at. absurd (none i s at));
    }

-- ---- the next steps

pub search_next : (edges : List Edge) (start : ℕ) (left left' : ℕ → List ℕ) (steps : List Step) (place : ℕ) (s : Step) (e : Edge)
    → IsSearch edges start left steps place → IsAt steps place s → slice_get edges s.edge ≡ Some e → e.to ≢ start → Clears e.to left left'
    → IsSearch edges start left' (with_steps steps (Some place) (s.depth + 1) (left e.to)) (place + 1)
search_next edges start left left' steps place s e kept at is other clears =
    let o : Option ℕ = Some place in
    let depth : ℕ = s.depth + 1 in
    let ps : List ℕ = left e.to in
    let more : List Step = map (step_along o depth) ps in
    let inside : place < length steps = slice_get_within steps place s at in
    let within : AreWithin steps depth = λ j t at'. kept.near place j s t (omega arith) at at' in
    let known : (i : ℕ) (t : Step) → i < place + 1 → IsAt (steps ++ more) i t → IsAt steps i t =
    λ i t lt at'. at_within steps more i t (omega (arith, lt, inside)) at' in
    record {
      right = right-follow edges e.to left left' clears kept.right;
      whole = whole-follow edges steps o depth e.to left left' clears kept.whole;
      linked = linked-follow steps o depth ps (λ i le. (s, at, omega (arith, le, inside), refl)) kept.linked;
      led = led-follow edges start steps o depth e.to ps (s, e, at, is, refl) (kept.right e.to) kept.led;
      begun = all_followed_more edges steps more start 1 kept.begun;
      apart = λ i t e' lt at' is'. elim (cases_lt i place) [
        | inl before ↦ kept.apart i t e' before (known i t lt at') is'
        | inr now ↦
            let same : t ≡ s = step_once steps place t s (subst (λ n. IsAt steps n t) (omega (arith, now, lt)) (known i t lt at')) at in
            let edge : e' ≡ e = same_Some e' e (sym is' ∙ ap (λ u. slice_get edges u.edge) same ∙ is) in
            λ back. other (ap (λ f. f.to) (sym edge) ∙ back)
      ];
      taken = λ i t e' lt at' is'. elim (cases_lt i place) [
        | inl before ↦ all_followed_more edges steps more e'.to (t.depth + 1) (kept.taken i t e' before (known i t lt at') is')
        | inr now ↦
            let same : t ≡ s = step_once steps place t s (subst (λ n. IsAt steps n t) (omega (arith, now, lt)) (known i t lt at')) at in
            let edge : e' ≡ e = same_Some e' e (sym is' ∙ ap (λ u. slice_get edges u.edge) same ∙ is) in
            subst (λ u. AreFollowed edges (steps ++ more) e'.to (u.depth + 1)) (sym same)
            (subst (λ f. AreFollowed edges (steps ++ more) f.to depth) (sym edge)
            (followed-follow edges steps o depth e.to left kept.whole within))
      ];
      sorted = sorted-follow steps o depth ps within kept.sorted;
      near = λ i j u t le at_u at_t. elim (old_or_new steps o depth ps i u at_u) [
        | inl old ↦ omega (
          arith,
          within-follow steps o depth ps within j t at_t,
          kept.sorted place i s u (omega (arith, le)) at old,
        )
        | inr new ↦ omega (arith, within-follow steps o depth ps within j t at_t, ap (λ v. v.depth) new.3)
      ];
      small = small-follow steps o depth ps (λ i le. omega (arith, le, inside, kept.small place s at)) kept.small;
    }

-- ---- what the search tells

abbrev Ahead : List Step → ℕ → ℕ → Type 0
Ahead steps place most = (i : ℕ) × (s : Step) × (place ≤ i) × IsAt steps i s × (s.depth ≤ most)

-- a step that follows the first edge of a way
abbrev FirstStep : List Edge → List Step → ℕ → ℕ → Edge → Type 0
FirstStep edges steps p most e = (i : ℕ) × (s : Step) × IsAt steps i s × (slice_get edges s.edge ≡ Some e) × (s.depth ≤ most)

first_step : (edges : List Edge) (steps : List Step) (node most p : ℕ) (e : Edge) → AreFollowed edges steps node most
    → slice_get edges p ≡ Some e → e.from ≡ node → FirstStep edges steps p most e
first_step edges steps node most p e followed is leaves =
    let step : (i : ℕ) × (s : Step) × IsAt steps i s × (s.edge ≡ p) × (s.depth ≤ most) = followed p (e, is, leaves) in
    (step.0, step.1, step.2, ap (slice_get edges) step.3 ∙ is, step.4)

-- of the steps along a way back one is yet to be taken, and it is no deeper than the way is long
step_ahead : (edges : List Edge) (start : ℕ) (left : ℕ → List ℕ) (steps : List Step) (place : ℕ) → IsSearch edges start left steps place
    → (node most : ℕ) (ps : List ℕ) → AreFollowed edges steps node (most + 1) → 1 ≤ length ps → IsWay edges node start ps
    → Ahead steps place (most + length ps)
step_ahead edges start left steps place kept node most [] followed some way = absurd (omega (arith, some))
step_ahead edges start left steps place kept node most (p ∷ []) followed some way =
    let step : FirstStep edges steps p (most + 1) way.0 = first_step edges steps node (most + 1) p way.0 followed way.1 way.2 in
    elim (cases_lt step.0 place) [
      | inl taken ↦ absurd (kept.apart step.0 step.1 way.0 taken step.2 step.3 way.3)
      | inr ahead ↦ (step.0, step.1, ahead, step.2, omega (arith, step.4))
    ]
step_ahead edges start left steps place kept node most (p ∷ q ∷ qs) followed some way =
    let step : FirstStep edges steps p (most + 1) way.0 = first_step edges steps node (most + 1) p way.0 followed way.1 way.2 in
    elim (cases_lt step.0 place) [
      | inl taken ↦
          let rest : Ahead steps place (step.1.depth + length (q ∷ qs)) =
          step_ahead edges start left steps place kept way.0.to step.1.depth (q ∷ qs) (kept.taken step.0 step.1 way.0 taken step.2 step.3)
          (omega arith) way.3 in
          (rest.0, rest.1, rest.2, rest.3, omega (arith, rest.4, step.4))
      | inr ahead ↦ (step.0, step.1, ahead, step.2, omega (arith, step.4))
    ]

-- with no step left to be taken there is no way back
pub no_circle : (edges : List Edge) (start : ℕ) (left : ℕ → List ℕ) (steps : List Step) (place : ℕ) → IsSearch edges start left steps place
    → length steps ≤ place → HasNoCircle edges start
no_circle edges start left steps place kept past = λ ps circle.
    let ahead : Ahead steps place (0 + length ps) = step_ahead edges start left steps place kept start 0 ps kept.begun circle.0 circle.1 in
    omega (arith, past, ahead.2, slice_get_within steps ahead.0 ahead.1 ahead.3)

-- the next step is no deeper than any way back is long
no_shorter : (edges : List Edge) (start : ℕ) (left : ℕ → List ℕ) (steps : List Step) (place : ℕ) (s : Step)
    → IsSearch edges start left steps place → IsAt steps place s → (ps : List ℕ) → IsCircle edges start ps → s.depth ≤ length ps
no_shorter edges start left steps place s kept at ps circle =
    let ahead : Ahead steps place (0 + length ps) = step_ahead edges start left steps place kept start 0 ps kept.begun circle.0 circle.1 in
    omega (arith, ahead.4, kept.sorted place ahead.0 s ahead.1 ahead.2 at ahead.3)

-- ---- the way that is found

-- the edge of a step, as it is read
pub edge_read : (edges : List Edge) (start : ℕ) (steps : List Step) (i : ℕ) (s : Step) (d : Edge) → IsLed edges start steps → IsAt steps i s
    → slice_get edges s.edge ≡ Some (get_or edges s.edge d)
edge_read edges start steps i s d led at =
    let edge : (e : Edge) × (slice_get edges s.edge ≡ Some e) × LeadsTo edges start steps s.before e.from = led i s at in
    edge.1 ∙ ap Some (sym (get_or_from_slice_get edges s.edge edge.0 d edge.1))

pub circle_found : (edges : List Edge) (start : ℕ) (left : ℕ → List ℕ) (steps : List Step) (place : ℕ) (s : Step) (e : Edge) (way : List ℕ)
    → IsSearch edges start left steps place → IsAt steps place s → slice_get edges s.edge ≡ Some e → e.to ≡ start
    → IsWayTo steps place way → IsCircle edges start way
circle_found edges start left steps place s e way kept at is back found = (
  omega (arith, found.edges, ap depth_of at, depth_positive steps place s at (kept.linked place s at)),
  found.way edges start start kept.led (s, e, at, is, sym back),
)

pub shortest_found : (edges : List Edge) (start : ℕ) (left : ℕ → List ℕ) (steps : List Step) (place : ℕ) (s : Step) (way : List ℕ)
    → IsSearch edges start left steps place → IsAt steps place s → IsWayTo steps place way → IsShortest edges start way
shortest_found edges start left steps place s way kept at found = λ others circle.
    omega (arith, found.edges, ap depth_of at, no_shorter edges start left steps place s kept at others circle)
