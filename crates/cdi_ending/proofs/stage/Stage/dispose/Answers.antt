use Rattle.std.proofs.Common.{◌≡◌, Some, arith}
use Rattle.cdi_legal.specs.{Acts.ending, Ends.Ends}
use Rattle.cdi_ending.proofs.stage.Stage.dispose.Goals as goal

pub returns-clause-legal : goal.returns-clause-legal
returns-clause-legal g c =
    let q : ending c.ask-act.result ≡ Some c.in-Some.outcome = grind arith in (
      c.in-Some.outcome,
      Ends.framed_back _ _ _ _ _ _ _ _ c.in_ok-note.ensures.ok
          (Ends.ended_back _ _ _ _ c.ask-act.result _ _
          (record { part = c.args.part.now; runs = c.requires.runs.runs; permitted = c.ask-act.ensures }) q)
          c.in_ok-note-2.ensures.ok,
    )
