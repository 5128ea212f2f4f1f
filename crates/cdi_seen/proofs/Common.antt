-- The names that several proofs cite, passed on from one place. Declares nothing.
pub use Rattle.std.proofs.Common.{◌≡◌, ℕ, Bool, true, false, cond, List, [], ◌∷◌, ◌++◌, map, filter, flat_map, Option, Some, None}
pub use Rattle.std.proofs.Common.{unwrap_or, refl, sym, ap, ◌∙◌, not, ◌||◌, inl, inr, ◌≢◌, ◌<◌, zero, suc, arith, ℤ, option_map, ◌&&◌}
pub use Rattle.std.proofs.Common.{length, drop, Bor}
pub use Rattle.std.specs.{Str.bytes_eq, Cmp.IsStrictWeakOrder, Cmp.Lexicographic.pointwise, Option.option_eq}
pub use Rattle.std.proofs.lemmas.Bool.{or_from, or_left, or_right, both_ways, false_from_ne_true, or_parts, false≢true, or_cases, and_right}
pub use Rattle.std.proofs.lemmas.{List.map-append, List.Folds.list_any-append, List.Elements.filter-append}
pub use Rattle.std.specs.List.{AllByRecursion, list_any}
pub use Rattle.base_lists.specs.Sorting.{sorted_by}
pub use Rattle.base_numbers.proofs.Texts.{same_text}
pub use Rattle.cdi_model.specs.{DeclKey.key_at, DeclKey.same_key_equiv, Edits.Avoid, Edits.is_among, Edits.edited_all, Edits.edited_keys}
pub use Rattle.cdi_model.specs.{Quals.name_of_use, declared.decl.BeanDecl.BeanDecl, declared.decl.Decl.Decl, declared.edit.Edit.Edit}
pub use Rattle.cdi_model.specs.{declared.place.BeanPlace.BeanPlace, declared.quals.Qual.Qual, declared.key.DeclKey.DeclKey}
pub use Rattle.cdi_model.specs.{DeclList.AreDistinct, DeclList.find_decl, Decl.key_of, Decl.kind_of, Decl.name_of_decl}
pub use Rattle.cdi_model.specs.{declared.decl.Kind.Kind, declared.decl.QualifierDecl.QualifierDecl}
pub use Rattle.cdi_model.proofs.EditLemmas.{avoid-first, avoid-second, edits_keep_decl, avoid-head}
pub use Rattle.cdi_match.specs.{Chain.has, Locality.binding_reads, Filling.as_qualifier, Filling.find_qualifier}
pub use Rattle.cdi_match.specs.Filled.{FilledUse, filled, filled_by}
pub use Rattle.cdi_effective.specs.Bindings.{class_bindings, in_place_of}
pub use Rattle.cdi_effective.specs.{Qualifiers.uses_one, Qualifiers.required, Reads.record_reads, Reads.qualifier_reads, Disposers.as_bean}
pub use Rattle.cdi_effective.specs.{Disposers.find_bean, declared.records.Effective.Effective, Specialized.is_replaced}
pub use Rattle.cdi_effective.specs.Beans.{records, entries, own_records, unless_replaced}
unfoldable pub use Rattle.cdi_effective.specs.Beans.{effective, beans}
pub use Rattle.cdi_effective.proofs.{SortLemmas.sorted_map, RecordLemmas.edits_keep_own_records, RecordLemmas.records_are_own}
pub use Rattle.cdi_intercept.specs.Sets.{around_method, of_method, of_observer, of_producer, set_by}
pub use Rattle.cdi_intercept.specs.Sees.{SeenInterceptor}
pub use Rattle.cdi_resolve.specs.{Choices.offers, Sees.seen_bean}
pub use Rattle.cdi_observe.specs.{Keys.EventKey, Keys.ChainKey, Keys.ChoiceKey, Keys.has_key, Sees.SeenObserver, Wanted.wanted_by}
unfoldable pub use Rattle.cdi_observe.specs.Observers.{observing}
pub use Rattle.cdi_seen.specs.Rests.{own_bindings, use_reads, IsPresent, own_reads, TellsAffected, method_reads, given_reads}
pub use Rattle.cdi_seen.specs.{Gives.unranked, Stakes.IsUnmet, Contribution.contribution, Contribution.seen_beans, Contribution.seen_of}
unfoldable pub use Rattle.cdi_seen.specs.{Words.names_under, Touched.is_touched}
pub use Rattle.cdi_seen.specs.Touched.{key_sees, ByChain, ByChoice, ByEvent, same_member_decl, same_qualifier, observers_alike}
