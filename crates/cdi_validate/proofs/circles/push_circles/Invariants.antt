use Rattle.cdi_validate.proofs.Common.{◌≡◌, ◌<◌, ◌++◌, length, flat_map, AllByRecursion}
use Rattle.std.specs.BTreeMap.{values}
use Rattle.cdi_validate.specs.Needed.{circle_at}
use Rattle.cdi_validate.proofs.circles.push_circles.Given as goal

abbrev pub invariant-loop-number : goal.invariant-loop-number
invariant-loop-number l = record {
  within : AllByRecursion (λ number. number < length l.dependents.ids) l.number-iterator;
  faults : l.faults.items ++ flat_map (circle_at l.dependents.ids l.marks) l.number-iterator
      ≡ l.fn.faults.items ++ flat_map (circle_at l.dependents.ids l.marks) (values l.dependents.numbers);
}
