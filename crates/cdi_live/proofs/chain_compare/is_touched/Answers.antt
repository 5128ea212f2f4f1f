use Rattle.cdi_live.proofs.Common.{not, sym, ap, ◌∙◌}
use Rattle.cdi_live.proofs.{TouchedChainLemmas.bindings-otherwise, TouchedChainLemmas.touched-where-seen}
use Rattle.cdi_live.proofs.chain_compare.is_touched.Goals as goal

pub returns-then-not-branch : goal.returns-then-not-branch
returns-then-not-branch c class bound =
    bindings-otherwise c.args.sides.now.index.now.decls c.args.sides.now.next.now class c.args.both bound c.args.place.now
    (sym (c.in_ok-are_same_at.ensures class bound) ∙ c.if-not-branch.true)

pub returns : goal.returns
returns c class bound =
    ap not c.in_ok-is_same.ensures
    ∙ touched-where-seen c.args.sides.now.index.now.decls c.args.sides.now.next.now class c.args.both bound c.args.place.now
    (sym (c.in_ok-are_same_at.ensures class bound) ∙ c.if-not-branch.false)
