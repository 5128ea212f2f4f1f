use Rattle.cdi_script.proofs.Common.{◌≡◌, take, [], subst, append-nil, Memory, Write, intake_on, Feeds}
use Rattle.cdi_script.proofs.Feeding.{feeds_advance, feeds_more, feeds_part_more, memory_here, part_here, part_in_front}
use Rattle.cdi_script.proofs.script.take_some.Goals as goal

pub returns-then-len-lt-MAX_OUT-clause-ok : goal.returns-then-len-lt-MAX_OUT-clause-ok
returns-then-len-lt-MAX_OUT-clause-ok g c = feeds_advance g.W.Write.contents (intake_on c.args.intake.now c.args.container.now)
    (intake_on c.advance.new.self c.advance.new.container) c.args.writer.now _ c.in-Ok.ensures.ok

pub returns-in-Err-clause-memory : goal.returns-in-Err-clause-memory
returns-in-Err-clause-memory g c = λ e. memory_here g.W.Write.contents (intake_on c.args.intake.now c.args.container.now)
    (intake_on c.advance.new.self c.advance.new.container) c.advance.new.self.runner c.args.writer.now
    c.give_up.new.writer c.args.chunk.now c.in-Err.ensures.err.text c.in-Err.ensures.tries
    (c.give_up.ensures.memory (let is : c.give_up.result ≡ Memory = cc in is))

pub returns-in-Err-clause-write : goal.returns-in-Err-clause-write
returns-in-Err-clause-write g c = λ e. part_here g.W.Write.contents (intake_on c.args.intake.now c.args.container.now)
    (intake_on c.advance.new.self c.advance.new.container) c.advance.new.self.runner c.args.writer.now
    c.give_up.new.writer c.args.chunk.now c.in-Err.ensures.err.text c.in-Err.ensures.tries
    (c.give_up.ensures.write (let is : c.give_up.result ≡ Write = cc in is))

pub returns-in-Ok-settle-clause-ok : goal.returns-in-Ok-settle-clause-ok
returns-in-Ok-settle-clause-ok g c =
    let taken = take c.in-Ok.n c.args.chunk.now in
    let old = intake_on c.args.intake.now c.args.container.now in
    let mid = intake_on c.advance.new.self c.advance.new.container in
    let new = intake_on c.settle.new.intake c.advance.new.container in
    subst (Feeds g.W.Write.contents old new c.args.writer.now c.settle.new.writer) (append-nil taken)
    (feeds_more g.W.Write.contents old mid new c.args.writer.now c.args.writer.now c.settle.new.writer taken []
    (feeds_advance g.W.Write.contents old mid c.args.writer.now taken c.in-Ok.ensures.ok)
    (c.in-Ok-settle.ensures.ok c.advance.new.container))

pub returns-in-Err-settle-clause-write : goal.returns-in-Err-settle-clause-write
returns-in-Err-settle-clause-write g c = λ e.
    let taken = take c.in-Ok.n c.args.chunk.now in
    let old = intake_on c.args.intake.now c.args.container.now in
    let mid = intake_on c.advance.new.self c.advance.new.container in
    let new = intake_on c.settle.new.intake c.advance.new.container in
    part_in_front g.W.Write.contents old new c.args.writer.now c.settle.new.writer c.in-Ok.n c.args.chunk.now
    (feeds_part_more g.W.Write.contents old mid new c.args.writer.now c.args.writer.now c.settle.new.writer taken []
    (feeds_advance g.W.Write.contents old mid c.args.writer.now taken c.in-Ok.ensures.ok)
    (c.in-Err-settle.ensures.part c.advance.new.container))
