use Rattle.cdi_live.proofs.Common.{sym, ◌∙◌}
use Rattle.cdi_live.proofs.TouchedChainLemmas.{same-of-class}
use Rattle.cdi_live.proofs.chain_compare.are_same_at.Goals as goal

pub returns-then-is_of_class : goal.returns-then-is_of_class
returns-then-is_of_class c class bound =
    bound.same
    ∙ same-of-class c.args.sides.now.index.now.decls c.args.sides.now.next.now c.args.both.before c.args.both.after c.args.place.now
    (sym c.is_of_class.ensures ∙ c.if-is_of_class.true)
