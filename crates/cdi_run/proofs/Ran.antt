-- The laws of traces, of a run from its beginning.
use Rattle.std.proofs.Common.{◌≤◌, refl}
use Rattle.cdi_model.specs.declared.outcome.Outcome.{Outcome}
use Rattle.cdi_contexts.specs.Standing.{Standing}
use Rattle.cdi_scene.specs.{Sound.Bodies, Sound.IsSound, declared.scene.Scene.Scene}
use Rattle.cdi_legal.specs.{Laws.HasCause, Laws.IsFaultless, Laws.IsOrdered, LegalRun.Command, LegalRun.LegalRun, LegalRun.Runs}
use Rattle.cdi_legal.specs.Moment.{beginning, Moment}
use Rattle.cdi_legal.proofs.{Bounding.commands_keep_budget, Causing.commands_fail_for_causes, Faultless.commands_are_faultless}
use Rattle.cdi_legal.proofs.Ordering.{commands_are_ordered}

module _ {s : Scene} {c : Command} {before : Standing} {o : Outcome} {m : Moment} (runs : Runs s c (beginning before) o m) where
  abbrev legal : LegalRun s c before m.trace o m.standing
  legal = record { end = m; runs = runs; pushed = refl; leaves = refl }

  pub run_ordered : IsOrdered s m.trace
  run_ordered = commands_are_ordered.run s c before m.trace o m.standing legal

  pub run_faultless : (book : Bodies) → IsSound book s → IsFaultless book s m.trace
  run_faultless book sound = (commands_are_faultless book).run s c before m.trace o m.standing legal sound

  pub run_budget : m.asked ≤ 20000
  run_budget = commands_keep_budget s c before m.trace o m.standing legal

  pub run_cause : HasCause s before m o
  run_cause = commands_fail_for_causes s c before m.trace o m.standing legal
