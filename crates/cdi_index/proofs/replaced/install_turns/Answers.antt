use Rattle.cdi_index.proofs.Common.{[], ◌∷◌, ap, ◌∙◌, same_key, length, arith, length-append, get}
use Rattle.cdi_index.proofs.TurnLemmas.{turned-next}
use Rattle.cdi_index.proofs.replaced.install_turns.Goals as goal

pub left-preserved : goal.left-preserved
left-preserved c =
    let items = c.in-Some.ensures.items in
    record {
      room = omega (
        arith,
        ap length items ∙ length-append c.pop.new.self.items (c.in-Some.turn ∷ []),
        c.left.invariant.room,
        c.install_turn.ensures.room,
      );
      applies = λ k. turned-next c.left.turns.list.items c.pop.new.self.items c.in-Some.turn (get same_key c.left.replaced)
          (get same_key c.install_turn.new.replaced) items c.install_turn.ensures.records k ∙ c.left.invariant.applies k;
    }
