use Rattle.cdi_staging.proofs.Common.{Contains, sym, subst, staged_product, iter_rest}
use Rattle.cdi_staging.proofs.ProductLemmas.{first-product, later, pushed}
use Rattle.cdi_staging.proofs.stage.Stage.push_products.Goals as goal

pub loop-effective-preserved : goal.loop-effective-preserved
loop-effective-preserved g c =
    let self = c.args.self.now in
    let ds = g.V.View.list self.view.now in
    let bean = c.args.class.bean.now in
    let before = c.loop-effective.effective-iterator in
    let after = c.next.new.self in
    let producer = c.in-Some.producer.now in
    record {
      declared = λ p at. c.loop-effective.invariant.declared p
          (subst (λ ps. Contains ps p) (sym c.in-Some.ensures.steps.1) (later producer (iter_rest after.b) p at));
      records = (first-product ds bean (iter_rest before.a) (iter_rest after.a) (iter_rest before.b) (iter_rest after.b)
          c.in-Some.effective.now producer c.in-Some.ensures.steps.0 c.in-Some.ensures.steps.1 c.loop-effective.invariant.records).1;
      beans = pushed (staged_product ds (g.B.Bodies.promises self.book.now) bean) c.loop-effective.list.items _ _ producer
          (iter_rest before.b) (iter_rest after.b) _ c.in_ok-push.ensures.items c.in_ok-product_bean.ensures c.in-Some.ensures.steps.1
          c.loop-effective.invariant.beans;
    }
