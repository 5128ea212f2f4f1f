use Rattle.cdi_validate.proofs.Common.{◌++◌, sym, ap, ◌∙◌, append_assoc, flat_map, [], ◌∷◌}
use Rattle.cdi_validate.proofs.{FoundLemmas.found-next}
use Rattle.cdi_validate.specs.Surrounded.{number_around, numbers_at}
use Rattle.cdi_validate.proofs.circles.number_all.Goals as goal

pub add_by_interceptor-requires-clause-found : goal.add_by_interceptor-requires-clause-found
add_by_interceptor-requires-clause-found g c =
    let gone = c.loop-decl.invariant.gone in
    found-next (g.V.View.list c.args.view.now) gone.0 c.next.new.self c.in-Some.decl.now c.decls.ensures.distinct
    (ap (λ rest. gone.0 ++ rest) (sym c.in-Some.ensures.steps) ∙ gone.1)

pub loop-decl-preserved : goal.loop-decl-preserved
loop-decl-preserved g c =
    let ds = g.V.View.list c.args.view.now in
    let gone = c.loop-decl.invariant.gone in
    let d = c.in-Some.decl.now in
    let numbers = c.args.dependents.now.numbers in
    let left = c.next.new.self in
    record {
      gone = (gone.0 ++ d ∷ [], append_assoc gone.0 (d ∷ []) left ∙ ap (λ rest. gone.0 ++ rest) (sym c.in-Some.ensures.steps) ∙ gone.1);
      numbers = λ name.
          let around = number_around numbers ds name in
          let before = numbers_at c.loop-decl.by_interceptor name in
          ap (λ ns. ns ++ flat_map around left) (c.in_ok-add_by_interceptor.ensures name)
          ∙ append_assoc before (around d) (flat_map around left)
          ∙ ap (λ es. before ++ flat_map around es) (sym c.in-Some.ensures.steps)
          ∙ c.loop-decl.invariant.numbers name;
    }
