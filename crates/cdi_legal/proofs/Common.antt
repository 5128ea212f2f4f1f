-- The names that several proofs cite, passed on from one place. Declares nothing.
pub use Rattle.std.proofs.Common.{◌≡◌, ◌<◌, ℕ, false, refl, suc, ◌+◌, ◌≤◌, inl, inr, Bool, true, List, [], ◌∷◌, length, arith, ap, subst}
pub use Rattle.std.proofs.Common.{sym, ◌∙◌, None, Some, Option, ◌++◌, not, ◌==◌, map, if◌then◌else◌, ◌&&◌, slice_get, zero, ◌⊎◌, IsSome}
pub use Rattle.std.proofs.Common.{option_map, append_assoc, nat_lt}
pub use Rattle.std.specs.List.{AllByRecursion, find}
pub use Rattle.std.proofs.lemmas.{Bool.false≢true, Bool.false_from_ne_true, Bool.Decides.nat_tests}
pub use Rattle.std.proofs.lemmas.Option.{same_Some, slice_get_within}
pub use Rattle.base_lists.proofs.Each.{all-weaker}
pub use Rattle.cdi_model.specs.{declared.decl.Scope.Scope, declared.outcome.Outcome.Outcome, declared.outcome.Val.Val}
pub use Rattle.cdi_model.specs.{declared.outcome.Val.TheVariants.Null, declared.outcome.Failure.Failure}
pub use Rattle.cdi_model.specs.declared.outcome.Outcome.TheVariants.{Value}
pub use Rattle.cdi_bodies.specs.declared.act.Act.{Act}
pub use Rattle.cdi_bodies.specs.declared.act.Act.TheVariants.{Call, Proceed, Load, Store}
pub use Rattle.cdi_contexts.specs.Standing.{IsFull, Standing, closed, found, without, keep, finish, last_of, numbered, made_for, last_in}
pub use Rattle.cdi_contexts.specs.{declared.instance.InstanceId.InstanceId, declared.instance.Owner.Owner}
pub use Rattle.cdi_contexts.specs.{declared.instance.Instance.Instance, declared.instance.Actor.Actor, Rising.IsRising, Rising.IsOwnerOf}
pub use Rattle.cdi_contexts.specs.declared.instance.Owner.TheVariants.{Nobody, Request, Application, Point}
pub use Rattle.cdi_contexts.specs.Owned.{context_of, is_of, is_part_of, is_at, same_actor}
pub use Rattle.cdi_contexts.specs.declared.instance.Actor.TheVariants.{Target, Interceptor}
pub use Rattle.cdi_contexts.proofs.Rising.{IsRising-without, IsRising-finished, IsRising-stored, IsRising-more}
pub use Rattle.cdi_scene.specs.{declared.scene.Scene.Scene, declared.scene.Bean.Bean, declared.place.Seat.Seat}
pub use Rattle.cdi_scene.specs.{declared.scene.Product.Product, declared.scene.Injection.Injection, declared.scene.Managed.Managed}
pub use Rattle.cdi_scene.specs.{Sound.Bodies, Sound.IsSound, Sound.IsSoundForm, declared.scene.Form.Form}
pub use Rattle.cdi_scene.specs.Scene.{bean_at, as_product, managed_at, product_at}
pub use Rattle.cdi_legal.specs.Ends.{Ends, End, Held, context, destroy, dependents, held}
pub use Rattle.cdi_legal.specs.Moment.{Moment, is_create, applied, beginning, effect, step, Effect, put, is_beginning, ask_more}
pub use Rattle.cdi_legal.specs.{declared.entry.Entry.Entry, Throughout.Throughout, Throughout.AtEachEntry, Throughout.AtEachPoint}
pub use Rattle.cdi_legal.specs.{Single.IsSingle, Furnished.IsDependent, Furnished.IsFurnished, Furnished.HasDependents, Acts.Touches}
pub use Rattle.cdi_legal.specs.{Acts.Permits, Keeps.IsStill, Rooted.IsHome, Follows.Follows, Follows.after, Opened.opened, Opened.Opening}
pub use Rattle.cdi_legal.specs.{Opened.creation, Opened.frame, Laws.IsOrdered, declared.entry.Made.TheVariants.Refused}
pub use Rattle.cdi_legal.specs.declared.entry.Entry.TheVariants.{Create, Destroy, Enter, Gone, Got, Leave, Proceeded, Skip}
pub use Rattle.cdi_legal.specs.Legal.{is_normal, Answer, Legal, Node, held_is, for_param, create, made_is, outcome_is}
pub use Rattle.cdi_legal.specs.LegalRun.{Runs, Command, Uses, Use, LegalRun, LegalRequestEnd, LegalEnd}
pub use Rattle.cdi_legal.specs.Placed.{link, producer, target, IsCalledAt, disposer, MayAct}
