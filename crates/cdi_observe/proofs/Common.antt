-- The names that several proofs cite, passed on from one place. Declares nothing.
pub use Rattle.std.proofs.Common.{◌≡◌, ℕ, zero, suc, Bool, true, false, cond, ◌&&◌, ◌||◌, List, [], ◌∷◌, refl, sym, ap, ◌∙◌, take, inl, inr}
pub use Rattle.std.proofs.Common.{◌++◌, map, filter, flat_map, Some, Ok, Err, ◌≢◌, not, length, get_or, ◌<◌, ◌+◌, drop, append_assoc, arith}
pub use Rattle.std.proofs.Common.{subst, slice_get}
pub use Rattle.std.specs.List.{AllByRecursion, Contains, list_all, list_any, All, AllPairs}
unfoldable pub use Rattle.std.specs.List.{IsDistinct}
pub use Rattle.std.proofs.lemmas.Bool.{false≢true, or_left, or_right, and_from, or_cases, and_parts, cases_Bool}
pub use Rattle.std.proofs.lemmas.List.Elements.{All-from_recursion, recursion_from_All}
pub use Rattle.std.specs.Str.{bytes_eq}
pub use Rattle.std.specs.Bool.{Decides}
pub use Rattle.std.proofs.lemmas.List.Folds.{list_any-append}
pub use Rattle.std.proofs.Math.Bool.{or_assoc, or-false}
pub use Rattle.std.proofs.lemmas.Option.{slice_get-get_or}
pub use Rattle.std.proofs.lemmas.List.Sums.{AllPass-from_list_all}
pub use Rattle.std.proofs.lemmas.List.{get_or-map, length-map}
pub use Rattle.base_numbers.proofs.Texts.{one_text}
pub use Rattle.base_options.proofs.Results.{OnErr-from}
pub use Rattle.cdi_model.specs.declared.decl.Decl.{Decl}
pub use Rattle.cdi_model.specs.Work.{with_one}
pub use Rattle.cdi_model.specs.declared.place.BeanPlace.{BeanPlace}
pub use Rattle.cdi_model.specs.declared.quals.Qual.{Qual}
pub use Rattle.cdi_model.specs.declared.decl.BeanDecl.{BeanDecl}
pub use Rattle.cdi_model.specs.declared.refusal.Refusal.{Refusal}
pub use Rattle.cdi_model.specs.Mentions.{Mention, EventOf, mentions, shown}
pub use Rattle.cdi_model.specs.declared.decl.PointDecl.{PointDecl}
pub use Rattle.cdi_model.specs.DeclList.{find_decl, AreDistinct}
pub use Rattle.cdi_model.specs.Decl.{kind_of, name_of_decl}
pub use Rattle.cdi_effective.specs.declared.records.Effective.{Effective}
pub use Rattle.cdi_effective.specs.Disposers.{find_bean, as_bean}
pub use Rattle.cdi_effective.proofs.PlaceLemmas.{own-found}
pub use Rattle.cdi_effective.specs.Beans.{entries}
unfoldable pub use Rattle.cdi_effective.specs.Records.{records_in}
pub use Rattle.cdi_intercept.specs.Chains.{chain_told}
pub use Rattle.cdi_intercept.specs.Sets.{has_place, places_of, methods_of, observers_of, producers_of}
pub use Rattle.cdi_observe.specs.Keys.{Key, same_key, has_key, same_place, ChainKey, ChoiceKey, EventKey}
pub use Rattle.cdi_observe.specs.Wanted.{each_once, wanted_by, asked_by, chains_by, events_by, event_in, key_of_point, points_of}
pub use Rattle.cdi_observe.specs.Wanted.{point_named}
unfoldable pub use Rattle.cdi_observe.specs.Wanted.{is_wanted, wanted}
pub use Rattle.cdi_observe.specs.Kept.{Kept, with_known, work_with, evaluated, EvaluatesSome}
unfoldable pub use Rattle.cdi_observe.specs.Kept.{after_key}
pub use Rattle.cdi_observe.specs.Observers.{Observer, is_notified, observer_id, declared_by, observers, observes}
pub use Rattle.cdi_observe.specs.Asked.{asked_key, is_told}
pub use Rattle.cdi_observe.specs.declared.keys.AskedKey.{AskedKey}
pub use Rattle.cdi_observe.specs.Lending.{is_answerable}
pub use Rattle.cdi_observe.specs.Around.{names_at}
unfoldable pub use Rattle.cdi_observe.specs.Around.{names_of_bean}
pub use Rattle.cdi_observe.specs.Lent.{lent_in}
