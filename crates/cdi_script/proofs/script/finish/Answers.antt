use Rattle.cdi_script.proofs.Common.{◌≡◌, Memory, Write, intake_on}
use Rattle.cdi_script.proofs.Feeding.{ends_whole, ends_part, last_line_memory, last_line_part, end_memory, end_part}
use Rattle.cdi_script.proofs.script.finish.Goals as goal

pub returns-in_default-clause-memory : goal.returns-in_default-clause-memory
returns-in_default-clause-memory g c = λ e. last_line_memory g.W.Write.contents (intake_on c.args.intake.now c.args.container.now)
    (intake_on c.end_last_line.new.self c.end_last_line.new.container) c.end_last_line.new.self.runner
    c.args.writer.now c.give_up.new.writer c.in_default.ensures.err.text c.in_default.ensures.tries
    (c.give_up.ensures.memory (let is : c.give_up.result ≡ Memory = cc in is))

pub returns-in_default-clause-write : goal.returns-in_default-clause-write
returns-in_default-clause-write g c = λ e. last_line_part g.W.Write.contents (intake_on c.args.intake.now c.args.container.now)
    (intake_on c.end_last_line.new.self c.end_last_line.new.container) c.end_last_line.new.self.runner
    c.args.writer.now c.give_up.new.writer c.in_default.ensures.err.text c.in_default.ensures.tries
    (c.give_up.ensures.write (let is : c.give_up.result ≡ Write = cc in is))

pub returns-in_default-end_mode-clause-memory : goal.returns-in_default-end_mode-clause-memory
returns-in_default-end_mode-clause-memory g c = λ e. end_memory g.W.Write.contents (intake_on c.args.intake.now c.args.container.now)
    (intake_on c.end_last_line.new.self c.end_last_line.new.container) (intake_on c.end_mode.new.self c.end_mode.new.container)
    c.end_mode.new.self.runner c.args.writer.now c.give_up-in_default-end_mode.new.writer
    c.in-Ok.ensures.ok c.in_default-end_mode.ensures.err.text c.in_default-end_mode.ensures.tries
    (c.give_up-in_default-end_mode.ensures.memory (let is : c.give_up-in_default-end_mode.result ≡ Memory = cc in is))

pub returns-in_default-end_mode-clause-write : goal.returns-in_default-end_mode-clause-write
returns-in_default-end_mode-clause-write g c = λ e. end_part g.W.Write.contents (intake_on c.args.intake.now c.args.container.now)
    (intake_on c.end_last_line.new.self c.end_last_line.new.container) (intake_on c.end_mode.new.self c.end_mode.new.container)
    c.end_mode.new.self.runner c.args.writer.now c.give_up-in_default-end_mode.new.writer
    c.in-Ok.ensures.ok c.in_default-end_mode.ensures.err.text c.in_default-end_mode.ensures.tries
    (c.give_up-in_default-end_mode.ensures.write (let is : c.give_up-in_default-end_mode.result ≡ Write = cc in is))

pub returns-in-Ok-send-clause-ok : goal.returns-in-Ok-send-clause-ok
returns-in-Ok-send-clause-ok g c = ends_whole g.W.Write.contents (intake_on c.args.intake.now c.args.container.now)
    (intake_on c.end_last_line.new.self c.end_last_line.new.container) c.end_mode.new.self
    (record c.end_mode.new.self { runner = c.send.new.runner }) c.end_mode.new.container c.args.writer.now c.send.new.writer
    c.in-Ok.ensures.ok c.in-Ok-end_mode.ensures.ok c.in-Ok-send.ensures.ok

pub returns-in-Err-clause-write : goal.returns-in-Err-clause-write
returns-in-Err-clause-write g c = λ e. ends_part g.W.Write.contents (intake_on c.args.intake.now c.args.container.now)
    (intake_on c.end_last_line.new.self c.end_last_line.new.container) c.end_mode.new.self
    (record c.end_mode.new.self { runner = c.send.new.runner }) c.end_mode.new.container c.args.writer.now c.send.new.writer
    c.in-Ok.ensures.ok c.in-Ok-end_mode.ensures.ok c.in-Err.ensures.part
