use Rattle.std.proofs.Common.{◌≡◌, ◌+◌, drop}
use Rattle.std.specs.List.{prefix_len}
use Rattle.cdi_effective.specs.Records.{is_product}
use Rattle.cdi_resolve.proofs.bean_list.products.Given as goal

abbrev pub invariant-loop-bean : goal.invariant-loop-bean
invariant-loop-bean l = record {
  place : l.count ≡ l.bean-index;
  rest : l.count + prefix_len is_product (drop l.bean-index l.beans) ≡ prefix_len is_product l.beans;
}
