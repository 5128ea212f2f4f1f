use Rattle.cdi_validate.proofs.Common.{rise-next}
use Rattle.cdi_validate.proofs.SurroundLemmas.{number-next}
use Rattle.cdi_validate.specs.Surrounded.{numbers_at}
use Rattle.cdi_validate.proofs.surrounded.add_to_each.Goals as goal

pub loop-name-preserved : goal.loop-name-preserved
loop-name-preserved c =
    let rise = rise-next c.args.names.now c.loop-name.name-index c.name-item.result c.loop-name-test.true c.name-item.is
    c.loop-name.invariant.rise in
    record {
      rise = rise.1;
      numbers = λ t. number-next c.args.names.now c.loop-name.name-index c.name-item.result t c.args.number
          (numbers_at c.loop-name.by_interceptor t) _ _ c.loop-name-test.true c.name-item.is c.loop-name.invariant.rise
          (c.in_ok-add_to.ensures t) (c.loop-name.invariant.numbers t);
    }
