use Rattle.cdi_validate.proofs.Common.{◌≡◌, flat_map, length, ◌≤◌, take, enabled_name}
use Rattle.cdi_validate.proofs.names.count_of_names_in.Given as goal

abbrev pub invariant-loop-bean : goal.invariant-loop-bean
invariant-loop-bean l = record {
  counted : l.count ≡ length (flat_map enabled_name (take l.bean-index l.beans));
  within : l.count ≤ l.bean-index;
}
