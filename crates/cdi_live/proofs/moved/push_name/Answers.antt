use Rattle.cdi_live.proofs.Common.{length, sym, ◌∙◌, ◌-◌}
use Rattle.cdi_live.proofs.MovedLemmas.{already-there}
use Rattle.cdi_live.proofs.moved.push_name.Goals as goal

pub returns-then-eq : goal.returns-then-eq
returns-then-eq c =
    already-there c.args.names.now.items c.as_slice.result.now (length c.as_slice.result.now - 1) c.last.result c.args.name
    c.as_slice.ensures.value c.last.ensures.value (sym c.eq.ensures ∙ c.if-eq.true)
