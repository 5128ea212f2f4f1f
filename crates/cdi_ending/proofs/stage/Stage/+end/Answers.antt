use Rattle.std.proofs.Common.{rules, ◌≡◌, ◌<◌, ◌+◌, ◌*◌, ◌-◌, nat_le, true, false, Some, None, arith, ap}
use Rattle.cdi_contexts.specs.Standing.{last_of}
use Rattle.cdi_legal.specs.{Ends.Ends, Moment.Moment}
use Rattle.cdi_ending.proofs.Shrinking.{Shrinks-trans, Shrinks-lower, Shrinks-gone, fewer}
use Rattle.cdi_ending.proofs.Costs.{last_counted, cost_from-le, counted_costs, gone_costs}
use Rattle.cdi_ending.specs.Room.{Shrinks, IsCounted}
use Rattle.cdi_ending.proofs.stage.Stage.+end.Goals as goal

pub destroy-destroy_dependents-requires : goal.destroy-destroy_dependents-requires
destroy-destroy_dependents-requires g t c =
    let n = c.args.id.number in
    let same : c.note.new.self.moment.standing ≡ c.args.run.now.moment.standing = ap (λ (m : Moment). m.standing) c.in_ok-note.ensures.ok in
    let given : c.call_back.new.run.moment.standing.given ≡ c.args.run.now.moment.standing.given =
    rw same at (c.in_ok-call_back.ensures.steady n).given in
    let smaller : 2 * (c.call_back.new.run.moment.standing.given + 1 - n) < 2 * (c.args.run.now.moment.standing.given + 1 - n) + 1 =
    omega arith in
    search rules

pub destroy-returns-clause-legal : goal.destroy-returns-clause-legal
destroy-returns-clause-legal g t c =
    Ends.destroyed _ _ _ _ _ _ c.in_ok-note.ensures.ok c.in_ok-call_back.ensures.legal c.in_ok-destroy_dependents.ensures.legal
    c.in_ok-note-2.ensures.ok

pub destroy-returns-clause-shrinks : goal.destroy-returns-clause-shrinks
destroy-returns-clause-shrinks g t c =
    let n = c.args.id.number in
    let same : c.note.new.self.moment.standing ≡ c.args.run.now.moment.standing = ap (λ (m : Moment). m.standing) c.in_ok-note.ensures.ok in
    let first : Shrinks n c.args.run.now.moment.standing c.call_back.new.run.moment.standing =
    rw same at (c.in_ok-call_back.ensures.steady n) in
    let second : Shrinks n c.call_back.new.run.moment.standing c.destroy_dependents.new.run.moment.standing =
    Shrinks-lower (n + 1) n _ _ (omega arith) c.in_ok-destroy_dependents.ensures.shrinks in
    rw c.in_ok-note-2.ensures.ok (Shrinks-trans n _ _ _ first (Shrinks-trans n _ _ _ second (Shrinks-gone n _)))

pub destroy-returns-clause-fewer : goal.destroy-returns-clause-fewer
destroy-returns-clause-fewer g t c = λ live.
    let n = c.args.id.number in
    let same : c.note.new.self.moment.standing ≡ c.args.run.now.moment.standing = ap (λ (m : Moment). m.standing) c.in_ok-note.ensures.ok in
    let first : Shrinks (n + 1) c.args.run.now.moment.standing c.call_back.new.run.moment.standing =
    rw same at (c.in_ok-call_back.ensures.steady (n + 1)) in
    let both : Shrinks (n + 1) c.args.run.now.moment.standing c.destroy_dependents.new.run.moment.standing =
    Shrinks-trans (n + 1) _ _ _ first c.in_ok-destroy_dependents.ensures.shrinks in
    let here = both.kept n (omega arith) live in
    rw c.in_ok-note-2.ensures.ok (omega (arith, both.few, fewer n c.destroy_dependents.new.run.moment.standing.live here))

pub destroy-returns-in_err-note-clause-possible : goal.destroy-returns-in_err-note-clause-possible
destroy-returns-in_err-note-clause-possible g t c = λ counted enough.
    let impossible : false ≡ true =
    c.in_err-note.ensures.possible (omega (arith, enough, counted_costs c.args.self.now.scene c.args.id _ counted)) in
    cc

pub destroy-returns-in_err-call_back-clause-possible : goal.destroy-returns-in_err-call_back-clause-possible
destroy-returns-in_err-call_back-clause-possible g t c = λ counted enough.
    let impossible : false ≡ true =
    c.in_err-call_back.ensures.possible
    (omega (arith, enough, counted_costs c.args.self.now.scene c.args.id _ counted, c.in_ok-note.ensures.room)) in
    cc

pub destroy-returns-in_err-destroy_dependents-clause-possible : goal.destroy-returns-in_err-destroy_dependents-clause-possible
destroy-returns-in_err-destroy_dependents-clause-possible g t c = λ counted enough.
    let n = c.args.id.number in
    let s = c.args.self.now.scene in
    let same : c.note.new.self.moment.standing ≡ c.args.run.now.moment.standing = ap (λ (m : Moment). m.standing) c.in_ok-note.ensures.ok in
    let first : Shrinks n c.args.run.now.moment.standing c.call_back.new.run.moment.standing =
    rw same at (c.in_ok-call_back.ensures.steady n) in
    let less = first.cheaper s (λ m. nat_le (n + 1) m) in
    let impossible : false ≡ true =
    c.in_err-destroy_dependents.ensures.possible
    (omega (arith, enough, counted_costs s c.args.id _ counted, c.in_ok-note.ensures.room, c.in_ok-call_back.ensures.room, less)) in
    cc

pub destroy-returns-in_err-note-2-clause-possible : goal.destroy-returns-in_err-note-2-clause-possible
destroy-returns-in_err-note-2-clause-possible g t c = λ counted enough.
    let n = c.args.id.number in
    let s = c.args.self.now.scene in
    let same : c.note.new.self.moment.standing ≡ c.args.run.now.moment.standing = ap (λ (m : Moment). m.standing) c.in_ok-note.ensures.ok in
    let first : Shrinks n c.args.run.now.moment.standing c.call_back.new.run.moment.standing =
    rw same at (c.in_ok-call_back.ensures.steady n) in
    let less = first.cheaper s (λ m. nat_le (n + 1) m) in
    let paid = c.in_ok-destroy_dependents.ensures.pays (n + 1) (omega arith) in
    let costs = counted_costs s c.args.id _ counted in
    let impossible : false ≡ true =
    c.in_err-note-2.ensures.possible
    (omega (arith, enough, costs, c.in_ok-note.ensures.room, c.in_ok-call_back.ensures.room, less, paid)) in
    cc

pub destroy-returns-clause-pays : goal.destroy-returns-clause-pays
destroy-returns-clause-pays g t c = λ counted low below.
    let n = c.args.id.number in
    let s = c.args.self.now.scene in
    let same : c.note.new.self.moment.standing ≡ c.args.run.now.moment.standing = ap (λ (m : Moment). m.standing) c.in_ok-note.ensures.ok in
    let first : Shrinks (n + 1) c.args.run.now.moment.standing c.call_back.new.run.moment.standing =
    rw same at (c.in_ok-call_back.ensures.steady (n + 1)) in
    let both : Shrinks (n + 1) c.args.run.now.moment.standing c.destroy_dependents.new.run.moment.standing =
    Shrinks-trans (n + 1) _ _ _ first c.in_ok-destroy_dependents.ensures.shrinks in
    let there : IsCounted s c.args.id c.destroy_dependents.new.run.moment.standing.live =
    omega (arith, counted, both.counted s n (omega arith)) in
    let goes = gone_costs s low c.args.id c.destroy_dependents.new.run.moment.standing.live below there in
    let less = first.cheaper s (λ m. nat_le low m) in
    let paid = c.in_ok-destroy_dependents.ensures.pays low (omega arith) in
    rw c.in_ok-note-2.ensures.ok
    (omega (arith, goes, less, paid, c.in_ok-note.ensures.room, c.in_ok-call_back.ensures.room, c.in_ok-note-2.ensures.room))

pub destroy_dependents-returns-in_err-destroy-clause-possible : goal.destroy_dependents-returns-in_err-destroy-clause-possible
destroy_dependents-returns-in_err-destroy-clause-possible g t c = λ enough.
    let s = c.args.self.now.scene in
    let live = c.loop-youngest.run.moment.standing.live in
    let d = c.in-Some.youngest in
    let last : last_of live c.args.number ≡ Some d = grind arith in
    let less = cost_from-le s (c.args.number + 1) d.number live (omega (arith, c.in-Some.ensures.younger.0)) in
    let paid = c.loop-youngest.invariant.pays (c.args.number + 1) (omega arith) in
    let impossible : false ≡ true = c.in_err-destroy.ensures.possible (last_counted s _ _ _ last) (omega (arith, enough, less, paid)) in
    cc

pub destroy_dependents-loop-youngest-preserved : goal.destroy_dependents-loop-youngest-preserved
destroy_dependents-loop-youngest-preserved g t c =
    let last : last_of c.loop-youngest.run.moment.standing.live c.args.number ≡ Some c.in-Some.youngest = grind arith in
    let counted : IsCounted c.args.self.now.scene c.in-Some.youngest c.loop-youngest.run.moment.standing.live =
    last_counted c.args.self.now.scene _ _ _ last in
    record {
      shrinks =
          Shrinks-trans _ _ _ _ c.loop-youngest.invariant.shrinks
          (Shrinks-lower _ _ _ _ (omega (arith, c.in-Some.ensures.younger.0)) c.in_ok-destroy.ensures.shrinks);
      pays = λ low h.
          omega (
            arith,
            c.loop-youngest.invariant.pays low h,
            c.in_ok-destroy.ensures.pays counted low (omega (arith, c.in-Some.ensures.younger.0)),
          );
      rest = λ m e. c.loop-youngest.invariant.rest m (Ends.youngest _ _ _ _ _ last c.in_ok-destroy.ensures.legal e);
    }

pub destroy_dependents-returns-clause-legal : goal.destroy_dependents-returns-clause-legal
destroy_dependents-returns-clause-legal g t c =
    let last : last_of c.loop-youngest.run.moment.standing.live c.args.number ≡ None = grind arith in
    c.loop-youngest.invariant.rest _ (Ends.no_dependent _ _ last)
