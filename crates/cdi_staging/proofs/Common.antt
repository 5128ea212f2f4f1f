-- The names that several proofs cite, passed on from one place. Declares nothing.
pub use Rattle.std.proofs.Common.{◌≡◌, true, None, refl, sym, ap, ◌∙◌, is_some, ℕ, Bool, false, List, map, Option, Some, subst, slice_get}
pub use Rattle.std.proofs.Common.{cond, length, ◌&&◌, unwrap_or, not, option_map, filter, ◌∷◌, ◌+◌, ◌<◌, get_or, drop, ◌||◌, [], ◌++◌}
pub use Rattle.std.proofs.Common.{arith, ◌≤◌, inl, inr, zero, suc, Contains, append_assoc, ◌≢◌, rules, append-nil}
pub use Rattle.std.proofs.lemmas.Option.{none-some, same_Some, slice_get-map, slice_get-get_or}
pub use Rattle.std.specs.{List.position_from, List.position, List.list_any, List.find, List.flat_map, Option.option_or}
pub use Rattle.std.specs.{Option.option_and_then, Str.bytes_eq, Int.RustNames.bit_and, Prelude.IfSome, Slice.Iter.iter_rest}
pub use Rattle.std.proofs.lemmas.{Bool.false≢true, Bool.and_parts, List.length-map, List.drop_more, Iterator.Adapters.position_from-zero}
pub use Rattle.indexmap.specs.IndexMap.{get}
pub use Rattle.base_lists.proofs.Places.{at-map, at-back, at-joined}
pub use Rattle.base_numbers.proofs.Texts.{same_text, one_text}
pub use Rattle.cdi_model.specs.{DeclList.AreDistinct, DeclList.find_decl, declared.decl.BeanDecl.BeanDecl, declared.decl.Decl.Decl}
pub use Rattle.cdi_model.specs.{declared.decl.ObserverDecl.ObserverDecl, declared.quals.Qual.Qual, declared.decl.MethodDecl.MethodDecl}
pub use Rattle.cdi_model.specs.{declared.decl.PartDecl.PartDecl, declared.decl.PointDecl.PointDecl, Quals.list_limit}
pub use Rattle.cdi_model.specs.{declared.decl.ProducerDecl.ProducerDecl, declared.place.BeanPlace.BeanPlace}
pub use Rattle.cdi_model.specs.{declared.decl.InterceptorDecl.InterceptorDecl, Decl.kind_of, Decl.name_of_decl}
pub use Rattle.cdi_bodies.specs.{Book.Promised, Book.is_named, Book.promise_of, Within.Has}
pub use Rattle.cdi_scene.specs.{Scene.as_managed, Scene.as_product, Scene.bean_at, Scene.managed_at, declared.scene.CallSite.CallSite}
pub use Rattle.cdi_scene.specs.{declared.scene.Scene.Scene, declared.scene.Observer.Observer, declared.scene.Part.Part}
pub use Rattle.cdi_scene.specs.{declared.scene.Via.Via, declared.scene.Notified.Notified, declared.scene.Bean.Bean}
pub use Rattle.cdi_scene.specs.{declared.scene.Managed.Managed, declared.scene.Product.Product, declared.place.Place.Place}
pub use Rattle.cdi_scene.specs.{declared.scene.Invocable.Invocable, declared.scene.Injection.Injection, declared.place.Seat.Seat}
pub use Rattle.cdi_scene.specs.declared.scene.Via.TheVariants.{Own, Param}
pub use Rattle.cdi_scene.specs.Sound.{HasMethod, IsSoundPart, IsAllowedAt, home_of, IsNamed, IsOwnPoint, IsSoundAt}
pub use Rattle.cdi_match.specs.Chain.{has}
pub use Rattle.cdi_effective.specs.{Beans.managed, Beans.product, Beans.entries, Disposers.find_bean, Disposers.as_bean}
pub use Rattle.cdi_effective.specs.{declared.records.Effective.Effective, declared.records.BeanId.BeanId, Bindings.class_bindings}
unfoldable pub use Rattle.cdi_effective.specs.Beans.{beans, effective}
pub use Rattle.cdi_effective.proofs.PlaceLemmas.{own-found}
pub use Rattle.cdi_intercept.specs.Chains.{in_order, surrounds, surrounds_one}
pub use Rattle.cdi_intercept.specs.{Sets.has_place, Sets.set_by, Sets.sets_of, Lent.lent_in}
pub use Rattle.cdi_intercept.proofs.ChainLemmas.{in_order-declared}
pub use Rattle.cdi_resolve.specs.declared.choice.Choice.TheVariants.{One}
pub use Rattle.cdi_observe.specs.{Answers.answer_to, Lending.are_answerable, Wanted.key_of_event, Wanted.key_of_point, Around.names_at}
pub use Rattle.cdi_observe.proofs.LendingLemmas.{chains-answerable}
pub use Rattle.cdi_staging.specs.Sites.{position_of_bean, position_of_class, is_method, is_point}
unfoldable pub use Rattle.cdi_staging.specs.Sites.{method_of, site_of, target_of}
pub use Rattle.cdi_staging.specs.Staged.{targets, part_with, staged_method, unused_managed, chain_at, unused_product, Around}
pub use Rattle.cdi_staging.specs.Staged.{injections_around, injections_from, places_from, staged_product, disposer_named}
unfoldable pub use Rattle.cdi_staging.specs.Staged.{scene_of, managed_form, staged_observer, staged_part, part_of, product_form, around_of}
unfoldable pub use Rattle.cdi_staging.specs.Staged.{staged_interceptor, staged_beans}
pub use Rattle.cdi_staging.specs.Notifying.{is_observer, notified_as, observer_declared, fired_at, IsHost}
pub use Rattle.cdi_staging.specs.{Positions.is_told_by, Positions.same_id, declared.target.Target.Target, Shown.IsFireable, Shown.around_in}
pub use Rattle.cdi_staging.specs.{Shown.names_among, Naming.names_in, Naming.product_names}
pub use Rattle.cdi_staging.specs.Faultless.{IsFinePart, IsFit, AreSatisfied, AreFine, IsFineManaged, IsFineProducer, AreFineAround}
