use Rattle.cdi_validate.proofs.Common.{◌≡◌, ◌++◌, sym, ap, ◌∙◌, append_assoc, flat_map, [], ◌∷◌, append-nil, needs_in}
use Rattle.cdi_validate.proofs.{FoundLemmas.found-next, NeedLemmas.edges-more}
use Rattle.cdi_validate.specs.Needed.{edges_of}
use Rattle.cdi_validate.proofs.circles.edges_between.Goals as goal

pub loop-decl-init : goal.loop-decl-init
loop-decl-init g c =
    let ds = g.V.View.list c.args.view.now in
    let numbers = c.args.dependents.now.numbers in
    let left = c.into_iter-decl-iterator.result in
    let same : left ≡ ds = c.into_iter-decl-iterator.ensures.into_iter_gives ∙ c.iter-decl-items.ensures.value
    ∙ c.decls.ensures.value in
    record {
      gone = ([], same);
      edges = ap (λ es. es ++ edges_of numbers (flat_map (needs_in ds) left)) c.new-edges.ensures.items
          ∙ ap (λ left. edges_of numbers (flat_map (needs_in ds) left)) same;
    }

pub add_needs-requires-clause-found : goal.add_needs-requires-clause-found
add_needs-requires-clause-found g c =
    let gone = c.loop-decl.invariant.gone in
    found-next (g.V.View.list c.args.view.now) gone.0 c.next.new.self c.in-Some.decl.now c.decls.ensures.distinct
    (ap (λ rest. gone.0 ++ rest) (sym c.in-Some.ensures.steps) ∙ gone.1)

pub loop-decl-preserved : goal.loop-decl-preserved
loop-decl-preserved g c =
    let ds = g.V.View.list c.args.view.now in
    let gone = c.loop-decl.invariant.gone in
    let d = c.in-Some.decl.now in
    let numbers = c.args.dependents.now.numbers in
    let before = c.loop-decl.edges.items in
    let left = c.next.new.self in
    record {
      gone = (gone.0 ++ d ∷ [], append_assoc gone.0 (d ∷ []) left ∙ ap (λ rest. gone.0 ++ rest) (sym c.in-Some.ensures.steps) ∙ gone.1);
      edges = edges-more numbers before c.add_needs.new.edges.items (needs_in ds d) (flat_map (needs_in ds) left) c.in_ok-add_needs.ensures
          ∙ ap (λ es. before ++ edges_of numbers (flat_map (needs_in ds) es)) (sym c.in-Some.ensures.steps)
          ∙ c.loop-decl.invariant.edges;
    }

pub returns : goal.returns
returns g c =
    let ds = g.V.View.list c.args.view.now in
    let now = c.loop-decl.edges.items in
    sym (append-nil now)
    ∙ ap (λ es. now ++ edges_of c.args.dependents.now.numbers (flat_map (needs_in ds) es)) (sym c.in-None.ensures.steps.0)
    ∙ c.loop-decl.invariant.edges
