use Rattle.cdi_staging.proofs.Common.{◌≡◌, ◌++◌, map, product, iter_rest, product_names}
use Rattle.cdi_staging.proofs.names.push_products.Given as goal

abbrev pub invariant-loop-effective : goal.invariant-loop-effective
invariant-loop-effective l = record {
  records : iter_rest l.effective-iterator.a ≡ map (product l.decls l.bean) (iter_rest l.effective-iterator.b);
  names : l.list.items ++ map (product_names l.decls l.bean) (iter_rest l.effective-iterator.b)
      ≡ l.fn.list.items ++ map (product_names l.decls l.bean) l.bean.producers;
}
