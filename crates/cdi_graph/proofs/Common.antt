-- The names that several proofs cite, passed on from one place. Declares nothing.
pub use Rattle.std.proofs.Common.{◌≡◌, ℕ, Bool, true, false, List, [], ◌∷◌, refl, ap, ◌∙◌, ◌++◌, filter, map, rules, drop, take}
pub use Rattle.std.specs.List.{flat_map}
pub use Rattle.std.proofs.lemmas.Fn.{filter_same}
pub use Rattle.indexmap.specs.IndexSet.{contains}
pub use Rattle.cdi_faults.specs.declared.fault.Fault.{Fault}
pub use Rattle.cdi_graph.specs.{declared.node.PointId.PointId, Red.is_ambiguous, Red.is_unsatisfied, Red.point_node, Edges.chosen}
pub use Rattle.cdi_graph.specs.{Edges.is_choice, Edges.is_owned, Edges.owned, Nodes.is_bean, Nodes.is_point, SamePoint.same_point}
