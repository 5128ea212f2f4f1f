use Rattle.cdi_validate.proofs.Common.{◌++◌, sym, ap, ◌∙◌, flat_map, arith, append-nil, need_in}
use Rattle.std.proofs.lemmas.Grind.{common_steps}
use Rattle.cdi_model.specs.Mentions.{shown}
use Rattle.cdi_validate.proofs.NeedLemmas.{edges-more}
use Rattle.cdi_validate.specs.Needed.{edges_of}
use Rattle.cdi_validate.proofs.circles.add_needs_along.Goals as goal

pub loop-mention-preserved : goal.loop-mention-preserved
loop-mention-preserved g c =
    let need = need_in (g.V.View.list c.args.view.now) c.args.bean.now in
    let numbers = c.args.dependents.now.numbers in
    let before = c.loop-mention.edges.items in
    record {
      answerable = grind (arith, common_steps);
      edges = edges-more numbers before c.add_needs_at.new.edges.items (need (shown c.in-Some.mention)) (flat_map need c.next.new.self)
          c.in_ok-add_needs_at.ensures
          ∙ ap (λ all. before ++ edges_of numbers (flat_map need all)) (sym c.in-Some.ensures.steps)
          ∙ c.loop-mention.invariant.edges;
    }

pub returns : goal.returns
returns g c =
    let need = need_in (g.V.View.list c.args.view.now) c.args.bean.now in
    let now = c.loop-mention.edges.items in
    sym (append-nil now)
    ∙ ap (λ ms. now ++ edges_of c.args.dependents.now.numbers (flat_map need ms)) (sym c.in-None.ensures.steps.0)
    ∙ c.loop-mention.invariant.edges
