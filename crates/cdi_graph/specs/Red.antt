-- Which points are unsatisfied or ambiguous (CDI 4.0, Unsatisfied and ambiguous dependencies).
use Rattle.std.specs.Prelude.{◌≡◌, ℕ, Bool, true, false, List, Option, Some, None, if◌then◌else◌}
use Rattle.std.specs.List.{list_any}
use Rattle.indexmap.specs.IndexSet.{contains}
use Rattle.cdi_faults.specs.declared.fault.Code.{Code}
use Rattle.cdi_faults.specs.declared.fault.Code.TheVariants as codes
use Rattle.cdi_faults.specs.declared.fault.Fault.{Fault}
use Rattle.cdi_faults.specs.declared.fault.Fault.TheVariants as faults
use Rattle.cdi_faults.specs.declared.fault.Subject.{Subject}
use Rattle.cdi_faults.specs.declared.fault.Subject.TheVariants as subjects
use Rattle.cdi_model.specs.declared.decl.Kind.{Kind}
use Rattle.cdi_model.specs.DeclKey.{key_at}
use Rattle.cdi_graph.specs.declared.node.Node.{Node}
use Rattle.cdi_graph.specs.declared.node.Node.TheVariants as nodes
use Rattle.cdi_graph.specs.declared.node.PointId.{PointId}
use Rattle.cdi_graph.specs.declared.node.PointState.{PointState}
use Rattle.cdi_graph.specs.declared.node.PointState.TheVariants as states
use Rattle.cdi_graph.specs.declared.plan.Wire.{Wire}
use Rattle.cdi_graph.specs.declared.red.Red.{Red}
use Rattle.cdi_graph.specs.Edges.{point_of}
use Rattle.cdi_graph.specs.SamePoint.{same_point}

-- the point that is the subject of a fault
abbrev pub point_in : Kind → List ℕ → Subject → Option PointId
point_in kind name (subjects.Point place point) = Some (record { owner = key_at kind name; place = place; name = point })
point_in kind name other = None

-- the points at which a fault of one of the two codes is, by what is at fault
abbrev pub unsatisfied_by : Code → Option PointId → Option PointId
unsatisfied_by codes.Unsatisfied p = p
unsatisfied_by other p = None

abbrev pub ambiguous_by : Code → Option PointId → Option PointId
ambiguous_by codes.Ambiguous p = p
ambiguous_by other p = None

abbrev pub unsatisfied_at : Fault → Option PointId
unsatisfied_at (faults.Declared code kind name subject) = unsatisfied_by code (point_in kind name subject)
unsatisfied_at other = None

abbrev pub ambiguous_at : Fault → Option PointId
ambiguous_at (faults.Declared code kind name subject) = ambiguous_by code (point_in kind name subject)
ambiguous_at other = None

-- this is the point
abbrev pub is_this : PointId → Option PointId → Bool
is_this p None = false
is_this p (Some q) = same_point q p

abbrev pub is_unsatisfied : List Fault → PointId → Bool
is_unsatisfied fs p = list_any (λ f. is_this p (unsatisfied_at f)) fs

abbrev pub is_ambiguous : List Fault → PointId → Bool
is_ambiguous fs p = list_any (λ f. is_this p (ambiguous_at f)) fs

-- the state of a point, by the faults of the deployment
abbrev pub state_of : List Fault → PointId → PointState
state_of fs p = if is_unsatisfied fs p then states.Unsatisfied else if is_ambiguous fs p then states.Ambiguous else states.Plain

-- the node of the point of a wire
abbrev pub point_node : List Fault → Wire → Node
point_node fs w = nodes.Point (record {
  id = point_of w;
  required_type = w.point.now.required_type;
  qualifiers = w.point.now.qualifiers;
  state = state_of fs (point_of w);
})

-- the points at which there are such faults are held
pub record HoldsRed (fs : List Fault) (red : Red) : Type 0 where
  pub unsatisfied : (p : PointId) → contains same_point red.unsatisfied p ≡ is_unsatisfied fs p
  pub ambiguous : (p : PointId) → contains same_point red.ambiguous p ≡ is_ambiguous fs p
