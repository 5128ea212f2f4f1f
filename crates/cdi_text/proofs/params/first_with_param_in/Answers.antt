use Rattle.cdi_text.proofs.ParamLemmas.{such_found, such_passed}
use Rattle.cdi_text.proofs.params.first_with_param_in.Goals as goal

pub returns-then-branch : goal.returns-then-branch
returns-then-branch c = λ texts has. such_found texts c.deref-method-items.result.now c.args.methods.now.items c.loop-index.index
    c.method-item.result c.in_ok-has_param_in.field-0 c.deref-method-items.ensures.value c.loop-index-test.true c.method-item.is
    c.if-branch.true (c.in_ok-has_param_in.ensures texts has) (c.loop-index.invariant texts has)

pub loop-index-preserved : goal.loop-index-preserved
loop-index-preserved c = λ texts has. such_passed texts c.deref-method-items.result.now c.args.methods.now.items c.loop-index.index
    c.method-item.result c.in_ok-has_param_in.field-0 c.deref-method-items.ensures.value c.loop-index-test.true c.method-item.is
    c.if-branch.false (c.in_ok-has_param_in.ensures texts has) (c.loop-index.invariant texts has)
