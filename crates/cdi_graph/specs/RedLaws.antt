-- A point is red exactly where a fault says so.
use Rattle.std.specs.Prelude.{◌≡◌, ◌≢◌, ◌↔◌, ◌⊎◌, List}
use Rattle.std.specs.List.{Contains}
use Rattle.cdi_faults.specs.declared.fault.Code.{Code}
use Rattle.cdi_faults.specs.declared.fault.Code.TheVariants as codes
use Rattle.cdi_faults.specs.declared.fault.Fault.{Fault}
use Rattle.cdi_faults.specs.declared.fault.Fault.TheVariants as faults
use Rattle.cdi_faults.specs.declared.fault.Subject.TheVariants as subjects
use Rattle.cdi_graph.specs.declared.node.PointId.{PointId}
use Rattle.cdi_graph.specs.declared.node.PointState.TheVariants as states
use Rattle.cdi_graph.specs.Red.{state_of}

-- a fault of a code at the point is among these
abbrev pub IsAtFault : Code → List Fault → PointId → Type 0
IsAtFault code fs p = Contains fs (faults.Declared code p.owner.kind p.owner.name (subjects.Point p.place p.name))

abbrev pub RedAreAtFault : Type 0
RedAreAtFault = (fs : List Fault) (p : PointId)
    → (state_of fs p ≢ states.Plain) ↔ (IsAtFault codes.Unsatisfied fs p ⊎ IsAtFault codes.Ambiguous fs p)

abbrev pub UnsatisfiedAreAtFault : Type 0
UnsatisfiedAreAtFault = (fs : List Fault) (p : PointId) → (state_of fs p ≡ states.Unsatisfied) ↔ IsAtFault codes.Unsatisfied fs p
