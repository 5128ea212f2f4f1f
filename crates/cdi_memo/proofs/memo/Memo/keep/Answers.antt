use Rattle.std.proofs.Common.{not, sym, ap, ◌∙◌, arith}
use Rattle.cdi_memo.proofs.ChangeLemmas.{turned}
use Rattle.cdi_memo.proofs.QuestionLemmas.{count-more, count-put}
use Rattle.cdi_memo.specs.Answers.{answers_in, is_kept}
use Rattle.cdi_memo.proofs.memo.Memo.keep.Goals as goal

pub invariant_of-self-then-branch : goal.invariant_of-self-then-branch
invariant_of-self-then-branch g c =
    let once = c.self.invariant.1 in
    let old = answers_in c.self.inside.answers.entries in
    let new = turned (is_kept g.Q.PartialEq.eq old (c.args.name, c.args.part)) c.in_ok-keep_in.field-0 c.in_ok-keep_in.ensures.more
    ∙ ap not c.if-branch.true in
    let more = count-more g.Q.PartialEq.eq g.met.Q.Eq.laws c.args.name c.args.part c.args.answer old
    (answers_in c.keep_in.new.answers.entries)
    once (c.in_ok-keep_in.ensures.once once) c.in_ok-keep_in.ensures.ok new in
    (omega (arith, more, c.self.invariant.0), c.in_ok-keep_in.ensures.once once, c.in_ok-keep_in.ensures.named c.self.invariant.2)

pub invariant_of-self-else-branch : goal.invariant_of-self-else-branch
invariant_of-self-else-branch g c =
    let once = c.self.invariant.1 in
    let old = answers_in c.self.inside.answers.entries in
    let put = turned (is_kept g.Q.PartialEq.eq old (c.args.name, c.args.part)) c.in_ok-keep_in.field-0 c.in_ok-keep_in.ensures.more
    ∙ ap not c.if-branch.false in
    let same = count-put g.Q.PartialEq.eq g.met.Q.Eq.laws c.args.name c.args.part c.args.answer old
    (answers_in c.keep_in.new.answers.entries)
    once (c.in_ok-keep_in.ensures.once once) c.in_ok-keep_in.ensures.ok put in
    (c.self.invariant.0 ∙ sym same, c.in_ok-keep_in.ensures.once once, c.in_ok-keep_in.ensures.named c.self.invariant.2)
