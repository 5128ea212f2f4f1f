use Rattle.cdi_ways.proofs.Common.{None, ap, sym, subst, ◌∙◌, at_node, left_at, AreLeaving, IsSearch}
use Rattle.cdi_ways.proofs.{StepLemmas.with_steps, SearchLemmas.search_begun}
use Rattle.cdi_ways.proofs.search.Search.new.Goals as goal

pub returns : goal.returns
returns c =
    let edges = c.args.edges.now in
    let left' = left_at c.follow.new.self.left.items in
    let left = left_at c.in_ok-lent.field-0.items in
    subst (λ steps. IsSearch edges c.args.start left' steps 0)
    (sym (c.in_ok-follow.ensures.steps ∙ ap (λ steps. with_steps steps None 1 (left c.args.start)) c.new.ensures.items))
    (search_begun edges c.args.start left left' (subst (λ each. AreLeaving edges (at_node each)) (sym c.in_ok-lent.ensures) c.requires)
    c.in_ok-follow.ensures.left)
