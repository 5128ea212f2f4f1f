-- The traces of the steps of a legal history keep the laws of traces.
use Rattle.cdi_container.proofs.Common.{List, Option, Some, refl, subst, [], ◌∷◌, ap, Outcome, Scene, State, Entry, scene, History}
use Rattle.cdi_container.proofs.Common.{LegalHistory, arith, Standing, IsRequested, IsSingleAt, IsWithinLimit, Step, LegalStep, empty}
use Rattle.cdi_legal.specs.{Laws.IsOrdered, Throughout.AtEachEntry, Throughout.AtEachPoint, Throughout.Throughout}
use Rattle.cdi_legal.proofs.{Bounding.commands_keep_budget, Bounding.commands_keep_throughout, Causing.commands_fail_for_causes}
use Rattle.cdi_legal.proofs.{Faultless.commands_are_faultless, Ordering.commands_are_ordered}
use Rattle.cdi_container.proofs.SharingLemmas.{by_run, nothing_stands, outcome_in, step_goes, step_holds, way_holds, Holds, Way}
use Rattle.cdi_container.specs.History.{EachStep, HasLawfulTraces, IsLawful, RanWithin}

-- ---- traces without entries

one_point : (P : List Entry → Type 0) → P [] → AtEachPoint P []
one_point P holds [] later is = holds
one_point P holds (x ∷ earlier) later is = cc

no_entry : (P : List Entry → Entry → Type 0) → AtEachEntry P []
no_entry P [] entry later is = cc
no_entry P (x ∷ earlier) entry later is = cc

nothing_ordered : (s : Scene) → IsOrdered s []
nothing_ordered s = record {
  limits = one_point _ (record { few = omega arith; each = tt });
  places = no_entry _;
  closed = refl;
}

at_once : (P : Scene → Standing → Type 0) (s : Scene) (x : Standing) → P s x → Throughout (P s) x []
at_once P s x holds = one_point _ holds

-- ---- steps

-- what has an outcome is a run
ran_within : {old : State} {outcome : Outcome} {trace : List Entry} {after : Standing}
    → Way (scene old) old.standing (Some outcome) trace after → RanWithin old trace outcome
ran_within {old} (by_run run outcome trace after l) = record {
  run = run;
  after = after;
  legal = l;
  budget = commands_keep_budget (scene old) run old.standing trace outcome after l;
  cause = commands_fail_for_causes (scene old) run old.standing trace outcome after l;
}

step_lawful : (old new : State) (step : Step) → LegalStep old step new → Holds old → IsLawful old step
step_lawful old new step h q =
    let goes = step_goes old new step h in
    record {
      ordered = way_holds commands_are_ordered (λ s x. nothing_ordered s) goes.way;
      faultless = way_holds (commands_are_faultless old.book) (λ s x sound. no_entry _) goes.way;
      single = way_holds commands_keep_throughout.single (at_once IsSingleAt) goes.way q.single;
      limit = way_holds commands_keep_throughout.limit (at_once IsWithinLimit) goes.way q.limit;
      requested = way_holds commands_keep_throughout.requested (at_once IsRequested) goes.way q.requested;
      ran = λ outcome is.
          ran_within (subst (λ (o : Option Outcome). Way (scene old) old.standing o step.trace goes.after) (ap outcome_in is) goes.way);
    }

-- ---- histories

history_lawful : (old new : State) (history : History) (h : LegalHistory old history new) → Holds old → EachStep IsLawful old history new h
history_lawful old new [] h q = tt
history_lawful old new (step ∷ steps) h q =
    (step_lawful old h.0 step h.1 q, history_lawful h.0 new steps h.2 (step_holds old h.0 step h.1 q))

pub has_lawful_traces : (history : History) → HasLawfulTraces history
has_lawful_traces history book state h =
    history_lawful (empty book) state history h (nothing_stands (scene (empty book)) (empty book).standing refl)
