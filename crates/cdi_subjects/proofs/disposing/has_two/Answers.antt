use Rattle.std.proofs.Common.{nat_lt, ap, rules, tests}
use Rattle.std.proofs.lemmas.Iterator.{YieldsList-from_slice, Consumers.count_from_yields_List, Consumers.YieldsList-from_filter}
use Rattle.cdi_effective.specs.Disposers.{disposes}
use Rattle.cdi_subjects.proofs.disposing.has_two.Goals as goal

pub returns : goal.returns
returns c =
    ap (nat_lt 1) (count_from_yields_List c.filter-matching.result _ c.count.ensures.ran
    (YieldsList-from_filter _ (disposes c.args.decls.now c.args.product.now) (YieldsList-from_slice c.args.disposers.now (cc))
    c.filter-matching.ensures.closure (λ x b q k. search (rules, tests))))
