use Rattle.std.proofs.{Common.arith, lemmas.Grind.common_steps}
use Rattle.cdi_model.specs.Mentions.{shown}
use Rattle.cdi_subjects.proofs.GlanceLemmas.{looked-next}
use Rattle.cdi_subjects.proofs.glance.Glance.at.Goals as goal

pub loop-mention-preserved : goal.loop-mention-preserved
loop-mention-preserved g c = record {
  looked = looked-next (g.V.View.list c.args.view.now) (g.B.Bodies.promises c.args.book.now) c.args.decl.now c.loop-mention.glance _ _
      (shown c.in-Some.mention) c.next.new.self _ c.in_ok-glance.ensures c.in-Some.ensures.steps c.loop-mention.invariant.looked;
  answerable = grind (arith, common_steps);
}
