use Rattle.cdi_effective.proofs.Common.{ap, ◌∙◌, Some, beans}
use Rattle.cdi_effective.proofs.MarkLemmas.{drop-there, listed-more, listed-same, one-dropped}
use Rattle.cdi_effective.proofs.PlaceLemmas.{own-place}
use Rattle.cdi_effective.proofs.OrderLemmas.{types_stand_in_order}
use Rattle.cdi_effective.proofs.TogetherLemmas.{records_stand_together}
use Rattle.cdi_effective.proofs.records.beans.Goals.{in-Bean+in_ok-push_records_at, in_default}
use Rattle.cdi_effective.proofs.records.beans.Goals as goal

pub returns-in_err-push_records_at-clause-records : goal.returns-in_err-push_records_at-clause-records
returns-in_err-push_records_at-clause-records c = records_stand_together

pub returns-clause-records : goal.returns-clause-records
returns-clause-records c = records_stand_together

pub returns-in_err-push_records_at-clause-types : goal.returns-in_err-push_records_at-clause-types
returns-in_err-push_records_at-clause-types c = types_stand_in_order

pub returns-clause-types : goal.returns-clause-types
returns-clause-types c = types_stand_in_order

pub returns-in_err-replaced-clause-records : goal.returns-in_err-replaced-clause-records
returns-in_err-replaced-clause-records c = records_stand_together

pub returns-in_err-replaced-clause-types : goal.returns-in_err-replaced-clause-types
returns-in_err-replaced-clause-types c = types_stand_in_order

pub returns-in_err-chains-clause-records : goal.returns-in_err-chains-clause-records
returns-in_err-chains-clause-records c = records_stand_together

pub returns-in_err-chains-clause-types : goal.returns-in_err-chains-clause-types
returns-in_err-chains-clause-types c = types_stand_in_order

pub push_records_at-requires-clause-place : goal.push_records_at-requires-clause-place
push_records_at-requires-clause-place c =
    let step = c.in-Some.ensures.steps in
    own-place c.args.decls.now c.loop-decl.place c.in-Bean.bean c.iter-decl-items.ensures.distinct
    ((drop-there c.args.decls.now c.loop-decl.place c.in-Some.decl.now c.next.new.self (c.loop-decl.invariant.left ∙ step)).0
    ∙ ap Some c.in-Bean.is)

pub loop-decl-preserved : goal.loop-decl-preserved
loop-decl-preserved c =
    let step = c.in-Some.ensures.steps in
    record {
      left = one-dropped c.args.decls.now c.loop-decl.place c.in-Some.decl.now c.next.new.self (c.loop-decl.invariant.left ∙ step);
      listed = elim c.match-decl.branch [
        | in-Bean+in_ok-push_records_at w ↦
            listed-more c.args.decls.now c.next.new.self c.loop-decl.decl-iterator c.in-Some.decl.now w.in-Bean.bean c.loop-decl.beans.items
            c.match-decl.beans.items (beans c.args.decls.now) w.in-Bean.is
            (ap (λ b. b.items) w.beans-is ∙ w.in_ok-push_records_at.ensures) c.in-Some.ensures.steps c.loop-decl.invariant.listed
        | in_default w ↦
            listed-same c.args.decls.now c.next.new.self c.loop-decl.decl-iterator c.in-Some.decl.now c.loop-decl.beans.items
            c.match-decl.beans.items (beans c.args.decls.now) w.in_default.not-Bean (ap (λ b. b.items) w.beans-is) c.in-Some.ensures.steps
            c.loop-decl.invariant.listed
      ];
    }
