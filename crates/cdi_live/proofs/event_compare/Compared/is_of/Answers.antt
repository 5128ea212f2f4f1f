use Rattle.cdi_live.proofs.Common.{sym, ◌∙◌, bytes_decides}
use Rattle.std.proofs.lemmas.Slice.Eq.{slice_eq-Decides}
use Rattle.cdi_live.proofs.event_compare.Compared.is_of.Goals as goal

pub returns-then-eq : goal.returns-then-eq
returns-then-eq c = λ same. (
  sym c.as_slice.ensures.value
      ∙ (slice_eq-Decides bytes_decides c.as_slice.result.now c.args.before.now c.eq.result c.eq.ensures).0 c.if-eq.true,
  sym c.as_slice-then-eq.ensures.value
      ∙ (slice_eq-Decides bytes_decides c.as_slice-then-eq.result.now c.args.after.now c.eq-then-eq.result c.eq-then-eq.ensures).0 same,
)
