-- The names that several proofs cite, passed on from one place. Declares nothing.
pub use Rattle.std.proofs.Common.{◌≡◌, ◌+◌, ◌-◌, ◌<◌, ℕ, zero, suc, nat_eq, List, [], ◌∷◌, ◌++◌, cond, get_or, length, map, inl, inr, refl}
pub use Rattle.std.proofs.Common.{ap, sym, subst, ◌∙◌, arith, Some, ◌⊎◌, ◌≤◌, Option, None, reverse, IfSome, vec_len, take, length-append}
pub use Rattle.std.proofs.Common.{◌≢◌, Bool, true, false, MatchBool, below_more}
pub use Rattle.std.proofs.lemmas.Grind.{common_steps}
pub use Rattle.std.specs.{List.slice_get, Option.option_map, Option.unwrap_or}
pub use Rattle.std.proofs.lemmas.{Bool.Decides.eqb_tells, Bool.cases_lt, Bool.Decides.nat_tests}
pub use Rattle.std.proofs.lemmas.Option.{none-some, same_Some, slice_get_within, slice_get-get_or, slice_get_cases, get_or_from_slice_get}
pub use Rattle.base_lists.proofs.Places.{at-front, at-joined}
pub use Rattle.cdi_ways.specs.{declared.edge.Edge.Edge, declared.search.Step.Step, Search.depth_at, Search.edges_of, Ways.IsWay}
pub use Rattle.cdi_ways.specs.Leaving.{at_node, Has, Leaves, AreLeaving, leaving_at, left_at}
pub use Rattle.cdi_ways.specs.Search.{depth_of, step_along, AreFollowed, IsAfter, IsAt, IsFollowed, IsLed, IsSearch, IsWayTo, LeadsTo}
pub use Rattle.cdi_ways.specs.declared.states.{State.State, States.States, State.TheVariants.Unknown, State.TheVariants.Ahead}
pub use Rattle.cdi_ways.specs.Circles.{Changes, IsReached, IsSettled, Leads, state_of, Stays}
