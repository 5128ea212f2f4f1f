use Rattle.cdi_script.proofs.Common.{refl, on_ok_weaker, on_err_weaker}
use Rattle.cdi_script.proofs.Feeding.{settles, part_settles}
use Rattle.cdi_script.proofs.script.settle.Goals as goal

pub returns-clause-ok : goal.returns-clause-ok
returns-clause-ok g c = on_ok_weaker c.send.result
    (λ s. settles g.W.Write.contents c.args.intake.now (record c.args.intake.now { runner = c.send.new.runner }) c.args.writer.now
    c.send.new.writer s refl refl) c.send.ensures.ok

pub returns-clause-part : goal.returns-clause-part
returns-clause-part g c = on_err_weaker c.send.result
    (part_settles g.W.Write.contents c.args.intake.now (record c.args.intake.now { runner = c.send.new.runner }) c.args.writer.now
    c.send.new.writer) c.send.ensures.part
