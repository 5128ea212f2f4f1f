use Rattle.cdi_live.proofs.Common.{sym, in_text_order}
use Rattle.cdi_live.specs.ChainCompared.{set_bound}
use Rattle.cdi_live.proofs.InterceptorStayLemmas.{between-stay}
use Rattle.cdi_live.proofs.chain_compare.see_same_interceptors.Goals as goal

pub returns-then-not-sides : goal.returns-then-not-sides
returns-then-not-sides c =
    sym (between-stay c.args.sides.now c.requires c.if-not-sides.true
    (in_text_order (set_bound c.args.sides.now.index.now.decls c.args.before c.args.place.now)) c.args.place.now)
