use Rattle.std.proofs.Common.{◌∙◌, arith}
use Rattle.std.proofs.lemmas.Result.{IfOk-weaker}
use Rattle.cdi_faults.proofs.OrderLemmas.{subjects_in_order}
use Rattle.cdi_faults.proofs.TreeLemmas.{few-in_order, values-in_order}
use Rattle.cdi_faults.proofs.text.in_text_order.Goals as goal

pub returns-clause-value : goal.returns-clause-value
returns-clause-value c = IfOk-weaker c.subjects_in.result _ _
    (λ list is. is ∙ values-in_order c.in_ok-tree.tree c.args.subjects.items c.in_ok-tree.ensures) c.subjects_in.ensures

pub returns-clause-order : goal.returns-clause-order
returns-clause-order c = subjects_in_order

pub returns-in_err-tree-clause-order : goal.returns-in_err-tree-clause-order
returns-in_err-tree-clause-order c = subjects_in_order

pub returns-then-len-lt2-clause-order : goal.returns-then-len-lt2-clause-order
returns-then-len-lt2-clause-order c = subjects_in_order

pub returns-then-len-lt2-clause-value : goal.returns-then-len-lt2-clause-value
returns-then-len-lt2-clause-value c = few-in_order c.args.subjects.items (omega (arith, c.if-len-lt2.true, c.len.ensures))
