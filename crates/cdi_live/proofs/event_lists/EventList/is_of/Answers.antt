use Rattle.cdi_live.proofs.Common.{sym, ◌∙◌, bytes_decides, same_quals-decides}
use Rattle.std.proofs.lemmas.Slice.Eq.{slice_eq-Decides}
use Rattle.cdi_live.proofs.event_lists.EventList.is_of.Goals as goal

pub returns-then-eq : goal.returns-then-eq
returns-then-eq c = λ same. (
  sym c.as_slice.ensures.value
      ∙ (slice_eq-Decides bytes_decides c.as_slice.result.now c.args.observed.now c.eq.result c.eq.ensures).0 c.if-eq.true,
  (same_quals-decides c.args.self.now.quals c.args.quals.now).0 (sym c.eq-then-eq.ensures ∙ same),
)
