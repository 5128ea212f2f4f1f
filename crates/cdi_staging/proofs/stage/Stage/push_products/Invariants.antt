use Rattle.cdi_staging.proofs.Common.{◌≡◌, ◌++◌, map, Contains, ProducerDecl, product, staged_product, iter_rest}
use Rattle.cdi_staging.proofs.stage.Stage.push_products.Given as goal

abbrev pub invariant-loop-effective : goal.invariant-loop-effective
invariant-loop-effective g l = record {
  declared : (p : ProducerDecl) → Contains (iter_rest l.effective-iterator.b) p → Contains l.class.bean.now.producers p;
  records : iter_rest l.effective-iterator.a
      ≡ map (product (g.V.View.list l.self.view.now) l.class.bean.now) (iter_rest l.effective-iterator.b);
  beans : l.list.items ++ map (staged_product (g.V.View.list l.self.view.now) (g.B.Bodies.promises l.self.book.now) l.class.bean.now)
      (iter_rest l.effective-iterator.b)
      ≡ l.fn.list.items ++ map (staged_product (g.V.View.list l.self.view.now) (g.B.Bodies.promises l.self.book.now) l.class.bean.now)
      l.class.bean.now.producers;
}
