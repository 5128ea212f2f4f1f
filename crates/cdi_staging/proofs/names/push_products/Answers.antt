use Rattle.cdi_staging.proofs.Common.{◌≡◌, [], ◌++◌, map, sym, ap, ◌∙◌, product, append-nil, iter_rest, product_names}
use Rattle.std.proofs.{Common.⊎_elim, lemmas.Slice.Zip.either_empty_from_Zip}
use Rattle.base_lists.proofs.Flat.{map-empty}
use Rattle.cdi_staging.proofs.ProductLemmas.{first-product, pushed}
use Rattle.cdi_staging.proofs.names.push_products.Goals as goal

pub product_names-requires : goal.product_names-requires
product_names-requires c =
    (first-product c.args.decls.now c.args.bean.now (iter_rest c.loop-effective.effective-iterator.a) (iter_rest c.next.new.self.a)
    (iter_rest c.loop-effective.effective-iterator.b) (iter_rest c.next.new.self.b) c.in-Some.effective.now c.in-Some.producer.now
    c.in-Some.ensures.steps.0 c.in-Some.ensures.steps.1 c.loop-effective.invariant.records).0

pub loop-effective-preserved : goal.loop-effective-preserved
loop-effective-preserved c = record {
  records = (first-product c.args.decls.now c.args.bean.now (iter_rest c.loop-effective.effective-iterator.a) (iter_rest c.next.new.self.a)
      (iter_rest c.loop-effective.effective-iterator.b) (iter_rest c.next.new.self.b) c.in-Some.effective.now c.in-Some.producer.now
      c.in-Some.ensures.steps.0 c.in-Some.ensures.steps.1 c.loop-effective.invariant.records).1;
  names = pushed (product_names c.args.decls.now c.args.bean.now) c.loop-effective.list.items _ _ c.in-Some.producer.now
      (iter_rest c.loop-effective.effective-iterator.b) (iter_rest c.next.new.self.b) _ c.in_ok-push.ensures.items
      c.in_ok-product_names.ensures c.in-Some.ensures.steps.1 c.loop-effective.invariant.names;
}

pub returns : goal.returns
returns c =
    let left = c.loop-effective.effective-iterator in
    let none : iter_rest left.b ≡ [] = ⊎_elim (λ first. map-empty (product c.args.decls.now c.args.bean.now) (iter_rest left.b)
    (sym c.loop-effective.invariant.records ∙ first)) (λ second. second)
    (either_empty_from_Zip left c.next.new.self c.next.result c.in-None.is c.next.ensures.steps) in
    sym (append-nil c.loop-effective.list.items)
    ∙ ap (λ ps. c.loop-effective.list.items ++ map (product_names c.args.decls.now c.args.bean.now) ps) (sym none)
    ∙ c.loop-effective.invariant.names
