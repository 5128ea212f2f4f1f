use Rattle.cdi_effective.proofs.Common.{ap, ◌∙◌, ◌++◌, map, product_of, rules}
use Rattle.cdi_effective.proofs.ProductLemmas.{managed_pushed}
use Rattle.cdi_effective.proofs.records.push_records.Goals as goal

pub loop-producer-init : goal.loop-producer-init
loop-producer-init g c =
    let m = c.in_ok-managed.managed in
    ap (λ producers. c.push.new.self.items ++ map (product_of c.args.decls.now c.args.bean.now m) producers)
    c.as_slice-producer-items.ensures
    ∙ managed_pushed c.args.decls.now c.args.bean.now c.args.is_offered c.in_ok-managed.managed c.args.list.now.items c.push.new.self.items
    (search rules) (search rules)
