use Rattle.cdi_validate.proofs.Common.{◌++◌, sym, flat_map, false≢true, subst, append-nil, enabled_name, AreLed, AreNames, take_all}
use Rattle.cdi_validate.proofs.ClashLemmas.{led-more, names-more}
use Rattle.cdi_validate.proofs.names.add_all.Goals as goal

pub loop-bean-init : goal.loop-bean-init
loop-bean-init c = record {
  led = λ before led. subst (AreLed c.args.leaders.now) (sym (append-nil before)) led;
  grammar = λ s among. absurd (false≢true among);
}

pub loop-bean-preserved : goal.loop-bean-preserved
loop-bean-preserved c =
    let bs = c.args.beans.now in
    let i = c.loop-bean.bean-index in
    let b = c.bean-item.result in
    record {
      led = λ before led. led-more c.loop-bean.leaders c.add.new.leaders before bs i b c.loop-bean-test.true c.bean-item.is
          c.in_ok-add.ensures.led (c.loop-bean.invariant.led before led);
      grammar = names-more bs i b c.loop-bean-test.true c.bean-item.is c.in_ok-add.ensures.grammar c.loop-bean.invariant.grammar;
    }

pub returns-clause-led : goal.returns-clause-led
returns-clause-led c = λ before led.
    subst (λ bs. AreLed c.loop-bean.leaders (before ++ bs)) (take_all c.loop-bean.bean-index c.args.beans.now c.loop-bean-test.false)
    (c.loop-bean.invariant.led before led)

pub returns-clause-grammar : goal.returns-clause-grammar
returns-clause-grammar c = subst (λ bs. AreNames (flat_map enabled_name bs))
    (take_all c.loop-bean.bean-index c.args.beans.now c.loop-bean-test.false) c.loop-bean.invariant.grammar
