-- The names that several proofs cite, passed on from one place. Declares nothing.
pub use Rattle.std.proofs.Common.{◌≡◌, Bool, true, false, ◌&&◌, List, [], ◌∷◌, map, refl, sym, ap, ◌∙◌, ℕ, ◌||◌, Option, Some, None, not}
pub use Rattle.std.proofs.Common.{is_some, inl, inr, subst, length, ◌++◌, Ok, if◌then◌else◌, cond, flat_map, unwrap_or, option_map, filter}
pub use Rattle.std.proofs.Common.{slice_get, arith, zero, suc, ◌+◌, take, nat_eq, ◌-◌}
pub use Rattle.std.specs.{List.list_any, List.list_all, Str.bytes_eq, Option.option_map_or, Option.option_to_list}
pub use Rattle.std.specs.{Option.option_copied, Cmp.Lexicographic.bytes_decides, Map.keys_of, Prelude.IfSome}
pub use Rattle.std.proofs.lemmas.Bool.{and_from, and_parts, false≢true, or_cases, or_left, or_right, not-true, eqb-true, or_parts, or_from}
pub use Rattle.std.proofs.lemmas.{List.Folds.list_any-append, List.Elements.filter-append, Result.IfOk-weaker}
pub use Rattle.indexmap.specs.IndexSet.{contains}
pub use Rattle.std.proofs.Math.Bool.{or_assoc}
pub use Rattle.base_lists.specs.Sorting.{sorted_by}
pub use Rattle.base_lists.proofs.Any.{any-same}
pub use Rattle.base_numbers.proofs.Texts.{one_text, same_text, bytes_eq-turned}
pub use Rattle.base_options.proofs.Booleans.{same-bool}
pub use Rattle.cdi_model.specs.{declared.decl.Decl.Decl, declared.place.BeanPlace.BeanPlace, declared.decl.BeanDecl.BeanDecl}
pub use Rattle.cdi_model.specs.{declared.quals.Qual.Qual, declared.edit.Edit.Edit, declared.key.DeclKey.DeclKey, Decl.key_of, Decl.kind_of}
pub use Rattle.cdi_model.specs.{Decl.name_of_decl, Edits.edited_all, Edits.edited_keys, Edits.is_among, Edits.Avoid, SameUse.same_quals}
pub use Rattle.cdi_model.specs.{SameUse.same_quals-decides, declared.decl.ObserverDecl.ObserverDecl, Quals.name_of_use}
pub use Rattle.cdi_model.specs.{declared.decl.InterceptorDecl.InterceptorDecl, DeclKey.key_at, DeclKey.same_key, declared.decl.Kind.Kind}
pub use Rattle.cdi_model.specs.DeclList.{AreDistinct, find_decl}
pub use Rattle.cdi_model.specs.Mentions.{Mention, EventOf, PointOf, TypeIn, of_bindings, of_parts, of_point}
unfoldable pub use Rattle.cdi_model.specs.Mentions.{mentions}
pub use Rattle.cdi_model.proofs.{EditLemmas.edits_keep_decl, EntryLemmas.key_exact}
pub use Rattle.cdi_match.specs.{Chain.has, Chain.Chain, Types.types_of, Filling.as_binding}
pub use Rattle.cdi_effective.specs.{Disposers.as_bean, Disposers.find_bean, Qualifiers.required, Qualifiers.uses_one}
pub use Rattle.cdi_effective.specs.{Bindings.class_bindings, declared.records.Effective.Effective, Records.records_declared}
pub use Rattle.cdi_effective.specs.Beans.{own_records, entries, records}
unfoldable pub use Rattle.cdi_effective.specs.{Beans.beans, Records.records_in}
pub use Rattle.cdi_postings.specs.{declared.word.Word.Word, Words.same_word, Words.word_at, Words.same_word_equiv}
pub use Rattle.cdi_memo.specs.Answers.{parts_under, Answers, answer, Removes}
pub use Rattle.cdi_memo.proofs.QuestionLemmas.{parts-kept}
pub use Rattle.cdi_index.specs.{Asked.asks_in, Told.Tells, Made.reads_in}
unfoldable pub use Rattle.cdi_index.specs.Asked.{asks_for}
pub use Rattle.cdi_index.specs.Made.{words_as_alternative, words_have, words_named, words_named_in, words_of_bindings, words_of_observer, words_of_record}
pub use Rattle.cdi_index.specs.Made.{words_of_uses, made_of, made_of_bean, made_of_binding, made_of_interceptor, reads, made_of_type}
pub use Rattle.cdi_index.specs.Under.{words_by, has_one, observes_one}
pub use Rattle.cdi_index.proofs.{NamedLemmas.among-named, SoughtLemmas.words-append, AskedLemmas.words-of-asker}
pub use Rattle.cdi_index.proofs.UnderLemmas.{key-found}
pub use Rattle.cdi_intercept.specs.{Sets.has_place, Sets.places_of, Sets.set_by, Bindings.in_text_order, Bindings.set_at, Lent.lent_in}
pub use Rattle.cdi_intercept.specs.Chains.{chain_of, part_for, is_enabled, surrounds}
unfoldable pub use Rattle.cdi_intercept.specs.Chains.{in_order, chain_by}
pub use Rattle.cdi_intercept.specs.Sees.{is_seen, shares_type, sees_at, names_around}
pub use Rattle.cdi_intercept.proofs.UseLemmas.{any-in_text_order}
pub use Rattle.cdi_resolve.specs.{declared.choice.Choice.Choice, Choices.offers}
pub use Rattle.cdi_observe.specs.{Wanted.wanted_by, Wanted.key_of_point, Wanted.points_of, Keys.same_place, Keys.ChainKey, Keys.has_key}
pub use Rattle.cdi_observe.specs.{Keys.EventKey, Keys.ChoiceKey, Keys.Key, declared.observers.ObserverId.ObserverId, Sees.event_sees}
pub use Rattle.cdi_observe.specs.{Kept.with_known, Observers.Observer, Observers.declared_by, Observers.observers, Observers.observes}
unfoldable pub use Rattle.cdi_observe.specs.{Wanted.is_wanted, Kept.after_key, Observers.observing}
pub use Rattle.cdi_observe.proofs.{KeyLemmas.same_place-decides, KeptLemmas.after_known}
pub use Rattle.cdi_seen.specs.{Rests.IsPresent, Rests.own_bindings, Words.types_observed}
pub use Rattle.cdi_seen.proofs.PresentLemmas.{all_present, found_any, witness, each_all}
pub use Rattle.cdi_seen.specs.Touched.{is_touched, ByEvent, see_same_beans, ByChain}
pub use Rattle.cdi_seen.proofs.SameLemmas.{touched_where_seen_differs}
pub use Rattle.cdi_live.specs.ChainGone.{is_place_of, goes, is_kept_chain, ArePlaces, Chains, enabled_in, words_bound, is_gone_chain}
pub use Rattle.cdi_live.specs.{ChainGone.AreGoneChains, Dropped.asks_before, Dropped.is_dropped_at}
pub use Rattle.cdi_live.specs.{Compared.IsBetween, declared.sides.Sides.Sides, Users.words_edited}
pub use Rattle.cdi_live.specs.{State.knows_in, State.kept_in, State.State, declared.memos.Memos.Memos, Gone.is_gone, Gone.are_alike}
pub use Rattle.cdi_live.specs.{Gone.sees_other, declared.gone.Gone.Gone, declared.chain_gone.GoneChain.GoneChain, EventDropped.drops_before}
pub use Rattle.cdi_live.specs.{EventDropped.is_dropped_in, Known.KnownAreWanted}
pub use Rattle.cdi_live.specs.Suspects.{holds, suspects, asked_in, concerned, types_of_key, types_of_records}
unfoldable pub use Rattle.cdi_live.specs.{Suspects.asked_types, EventSuspects.fired_types, EventDropped.is_dropped_by}
pub use Rattle.cdi_live.specs.EventCompared.{is_touched_of, Events, is_touched_among}
pub use Rattle.cdi_live.specs.EventSuspects.{is_suspect, event_types, fired_in, may_have, observed_by_key}
pub use Rattle.cdi_live.specs.ChainSuspects.{is_chain_suspect, brings_to, class_named, classes_bound, is_bound_by, is_intercepted_by}
unfoldable pub use Rattle.cdi_resolve.specs.Choices.{chosen}
