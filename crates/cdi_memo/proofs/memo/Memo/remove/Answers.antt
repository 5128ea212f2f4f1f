use Rattle.std.proofs.Common.{sym, ◌∙◌, arith}
use Rattle.cdi_memo.proofs.QuestionLemmas.{count-less, count-stays}
use Rattle.cdi_memo.specs.Answers.{answers_in}
use Rattle.cdi_memo.proofs.memo.Memo.remove.Goals as goal

pub overflow_sub-self : goal.overflow_sub-self
overflow_sub-self g c =
    let once = c.self.invariant.1 in
    let less = count-less g.Q.PartialEq.eq g.met.Q.Eq.laws c.args.name.now c.args.part.now (answers_in c.self.inside.answers.entries)
    (answers_in c.remove_in.new.answers.entries) once (c.remove_in.ensures.once once) c.remove_in.ensures.removed
    (sym c.remove_in.ensures.was ∙ c.if-remove_in.true) in
    omega (arith, less, c.self.invariant.0)

pub invariant_of-self : goal.invariant_of-self
invariant_of-self g c =
    let once = c.self.invariant.1 in
    let less = count-less g.Q.PartialEq.eq g.met.Q.Eq.laws c.args.name.now c.args.part.now (answers_in c.self.inside.answers.entries)
    (answers_in c.remove_in.new.answers.entries) once (c.remove_in.ensures.once once) c.remove_in.ensures.removed
    (sym c.remove_in.ensures.was ∙ c.if-remove_in.true) in
    (omega (arith, less, c.self.invariant.0), c.remove_in.ensures.once once, c.remove_in.ensures.named c.self.invariant.2)

pub invariant_of-self-else-remove_in : goal.invariant_of-self-else-remove_in
invariant_of-self-else-remove_in g c =
    let once = c.self.invariant.1 in
    let stays = count-stays g.Q.PartialEq.eq g.met.Q.Eq.laws c.args.name.now c.args.part.now (answers_in c.self.inside.answers.entries)
    (answers_in c.remove_in.new.answers.entries) once (c.remove_in.ensures.once once) c.remove_in.ensures.removed
    (sym c.remove_in.ensures.was ∙ c.if-remove_in.false) in
    (c.self.invariant.0 ∙ sym stays, c.remove_in.ensures.once once, c.remove_in.ensures.named c.self.invariant.2)
