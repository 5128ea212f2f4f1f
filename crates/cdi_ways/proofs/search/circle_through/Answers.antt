use Rattle.cdi_ways.proofs.Common.{◌≡◌, ◌+◌, ◌<◌, ℕ, List, get_or, length, length-append, vec_len, Some, ap, sym, subst, ◌∙◌, arith}
use Rattle.cdi_ways.proofs.Common.{slice_get, Edge, Step, left_at, IsAt, IsSearch, IsWayTo}
use Rattle.std.proofs.lemmas.Option.{slice_get_read}
use Rattle.cdi_ways.specs.declared.search.Search.{Search}
use Rattle.cdi_ways.proofs.SearchLemmas.{circle_found, edge_read, no_circle, search_next, shortest_found}
use Rattle.cdi_ways.proofs.search.circle_through.Goals as goal

-- the edge that is read at a place
abbrev edge_at : List Edge → ℕ → Edge
edge_at edges p = get_or edges p (record { from = 0; to = 0 })

is_there : (search : Search) (place : ℕ) (s : Step) → place < vec_len search.steps → s ≡ get_or search.steps.items place s
    → IsAt search.steps.items place s
is_there search place s within read = slice_get_read search.steps.items (vec_len search.steps) place s
    (omega (arith, search.steps.ok.0)) within read

pub returns-then-to-start-clause-way : goal.returns-then-to-start-clause-way
returns-then-to-start-clause-way c =
    let edges : List Edge = c.args.edges.now in
    let steps : List Step = c.taken.search.steps.items in
    let place : ℕ = c.taken.place in
    let s : Step = c.index-step.result.now in
    let at : IsAt steps place s = is_there c.taken.search place s (omega (arith, c.taken-test.true, c.len.ensures)) c.index-step.ensures in
    circle_found edges c.args.start (left_at c.taken.search.left.items) steps place s (edge_at edges s.edge) c.in_ok-way_to.field-0.items
    c.taken.invariant.0 at (edge_read edges c.args.start steps place s (record { from = 0; to = 0 }) c.taken.invariant.0.led at)
    c.if-to-start.true (subst (λ ss. IsWayTo ss place c.in_ok-way_to.field-0.items) c.as_slice.ensures.value c.in_ok-way_to.ensures)

pub returns-then-to-start-clause-shortest : goal.returns-then-to-start-clause-shortest
returns-then-to-start-clause-shortest c =
    let steps : List Step = c.taken.search.steps.items in
    let place : ℕ = c.taken.place in
    let s : Step = c.index-step.result.now in
    let at : IsAt steps place s = is_there c.taken.search place s (omega (arith, c.taken-test.true, c.len.ensures)) c.index-step.ensures in
    shortest_found c.args.edges.now c.args.start (left_at c.taken.search.left.items) steps place s c.in_ok-way_to.field-0.items
    c.taken.invariant.0 at (subst (λ ss. IsWayTo ss place c.in_ok-way_to.field-0.items) c.as_slice.ensures.value c.in_ok-way_to.ensures)

pub overflow_add-step : goal.overflow_add-step
overflow_add-step c =
    let place : ℕ = c.taken.place in
    let s : Step = c.index-step.result.now in
    let at : IsAt c.taken.search.steps.items place s =
    is_there c.taken.search place s (omega (arith, c.taken-test.true, c.len.ensures)) c.index-step.ensures in
    omega (
      arith,
      c.taken.invariant.0.small place s at,
      c.taken-test.true,
      c.len.ensures,
      c.taken.search.steps.ok.1,
      c.taken.search.steps.small,
    )

pub taken-preserved : goal.taken-preserved
taken-preserved c =
    let edges : List Edge = c.args.edges.now in
    let old : Search = c.taken.search in
    let new : Search = c.follow.new.self in
    let steps : List Step = old.steps.items in
    let place : ℕ = c.taken.place in
    let s : Step = c.index-step.result.now in
    let within : place < vec_len old.steps = omega (arith, c.taken-test.true, c.len.ensures) in
    let at : IsAt steps place s = is_there old place s within c.index-step.ensures in
    let is : slice_get edges s.edge ≡ Some (edge_at edges s.edge) =
    edge_read edges c.args.start steps place s (record { from = 0; to = 0 }) c.taken.invariant.0.led at in (
      subst (λ ss. IsSearch edges c.args.start (left_at new.left.items) ss (place + 1)) (sym c.in_ok-follow.ensures.steps)
          (search_next edges c.args.start (left_at old.left.items) (left_at new.left.items) steps place s
          (edge_at edges s.edge) c.taken.invariant.0
          at is c.if-to-start.false c.in_ok-follow.ensures.left),
      omega (arith, ap length c.in_ok-follow.ensures.steps ∙ length-append steps _, old.steps.ok.0, new.steps.ok.0, within),
    )

pub returns-clause-none : goal.returns-clause-none
returns-clause-none c =
    no_circle c.args.edges.now c.args.start (left_at c.taken.search.left.items) c.taken.search.steps.items c.taken.place c.taken.invariant.0
    (omega (arith, c.taken-test.false, c.len.ensures, c.taken.search.steps.ok.0))
