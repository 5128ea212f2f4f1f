use Rattle.cdi_validate.proofs.Common.{List, ◌++◌, flat_map, Effective, take, enabled_name, AreLed, AreNames}
use Rattle.cdi_validate.proofs.names.add_all.Given as goal

abbrev pub invariant-loop-bean : goal.invariant-loop-bean
invariant-loop-bean l = record {
  led : (before : List Effective) → AreLed l.fn.leaders before → AreLed l.leaders (before ++ take l.bean-index l.beans);
  grammar : AreNames (flat_map enabled_name (take l.bean-index l.beans));
}
