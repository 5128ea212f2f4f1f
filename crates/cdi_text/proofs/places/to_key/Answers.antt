use Rattle.cdi_text.proofs.Common.{IfOk-weaker}
use Rattle.cdi_text.proofs.places.to_key.Goals as goal

pub returns : goal.returns
returns c = IfOk-weaker c.after.result _ _ (λ longer e. (c.in_ok-from_str.field-0, c.in_ok-from_str.ensures.ok, e)) c.after.ensures
