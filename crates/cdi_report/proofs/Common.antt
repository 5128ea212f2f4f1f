-- The names that several proofs cite, passed on from one place. Declares nothing.
pub use Rattle.std.proofs.Common.{◌≡◌, ℕ, Bool, true, false, cond, List, [], ◌∷◌, ◌++◌, map, flat_map, Option, Some, None, IfSome}
pub use Rattle.std.proofs.Common.{option_map, refl, sym, ap, ◌∙◌, inl, inr, ◌||◌, arith, suc, zero, subst, not, is_some, filter, ◌&&◌, ◌⊎◌}
pub use Rattle.std.proofs.Common.{length, nat_eq, take, ◌≤◌}
pub use Rattle.std.specs.List.{AllByRecursion, list_any, find, list_all}
pub use Rattle.std.proofs.lemmas.Bool.{cases_Bool, false≢true, or_cases, or_left, or_right, and_from, and_parts, or_parts, not-true}
pub use Rattle.std.specs.{Str.bytes_eq, Option.option_to_list, Option.option_map_or}
pub use Rattle.indexmap.specs.IndexSet.{contains}
pub use Rattle.std.proofs.lemmas.{List.Folds.list_any-append, Result.IfOk-weaker, List.take_all}
pub use Rattle.base_lists.proofs.Each.{all-weaker, all-append, all-filter}
pub use Rattle.base_numbers.proofs.Texts.{one_text, same_text}
pub use Rattle.cdi_positions.specs.Marks.{is_marked, marked_from}
pub use Rattle.cdi_model.specs.{Decl.kind_of, Decl.name_of_decl, Decl.key_of, DeclKey.key_at, DeclKey.same_key, DeclKey.same_key_equiv}
pub use Rattle.cdi_model.specs.{Quals.name_of_use, declared.decl.BeanDecl.BeanDecl, declared.decl.Decl.Decl, declared.edit.Edit.Edit}
pub use Rattle.cdi_model.specs.{declared.key.DeclKey.DeclKey, declared.quals.Qual.Qual, declared.place.BeanPlace.BeanPlace}
pub use Rattle.cdi_model.specs.{declared.decl.BindingDecl.BindingDecl, declared.decl.StereotypeDecl.StereotypeDecl, declared.decl.Kind.Kind}
pub use Rattle.cdi_model.specs.{declared.decl.ProducerDecl.ProducerDecl, declared.decl.PointDecl.PointDecl, declared.decl.UseKind.UseKind}
pub use Rattle.cdi_model.specs.{declared.mention.TypePlace.TypePlace, declared.decl.TypeDecl.TypeDecl, Grammar.is_name}
pub use Rattle.cdi_model.specs.DeclList.{find_decl, is_of, AreDistinct}
pub use Rattle.cdi_model.specs.Edits.{edited_all, edited_keys, is_among, Avoid}
pub use Rattle.cdi_model.specs.Mentions.{Mention, UseOf, PointOf, StereotypeOf, TypeIn}
unfoldable pub use Rattle.cdi_model.specs.Mentions.{mentions}
pub use Rattle.cdi_model.proofs.EditLemmas.{edits_keep_decl, avoid-first, avoid-second, edits_keep_others}
pub use Rattle.cdi_model.proofs.EntryLemmas.{key_exact}
pub use Rattle.cdi_bodies.specs.Book.{Promised}
pub use Rattle.cdi_match.specs.Bindings.{types_brought, with_brought, brought, brought_types}
unfoldable pub use Rattle.cdi_match.specs.{Bindings.brings_itself, Stereotypes.inherits_itself, Types.extends_itself}
pub use Rattle.cdi_match.specs.{Chain.has, Chain.Chain, Chain.leads, Filling.as_binding, Locality.binding_reads, Locality.stereotype_reads}
pub use Rattle.cdi_match.specs.{Stereotypes.stereotypes_of, Types.supers_of, Types.types_of}
pub use Rattle.cdi_match.proofs.{BindingLemmas.brings_type_decides, BindingLemmas.types_brought-has, LocalityLemmas.among-names}
pub use Rattle.cdi_match.proofs.{LocalityLemmas.avoid-names, TypeLemmas.is_type_decides, TypeLemmas.types_of-has}
pub use Rattle.cdi_effective.specs.Beans.{entries, records, product, own_records}
unfoldable pub use Rattle.cdi_effective.specs.{Beans.effective, Beans.beans, Records.records_in}
pub use Rattle.cdi_effective.specs.{Disposers.as_bean, Reads.specialized_reads, declared.records.Effective.Effective}
pub use Rattle.cdi_effective.specs.{Bindings.class_bindings, Records.records_declared, declared.records.BeanId.BeanId, Qualifiers.required}
pub use Rattle.cdi_effective.specs.Reads.{bean_keys, bean_reads, chain_reads, class_reads, link_reads, product_reads, record_reads}
pub use Rattle.cdi_effective.specs.Specialized.{bean_named, behind, extended, specialized}
pub use Rattle.cdi_effective.proofs.ChainLemmas.{found-name}
pub use Rattle.cdi_postings.specs.{declared.word.Word.Word, Words.same_word, Words.word_at}
pub use Rattle.cdi_index.specs.Made.{made_of_bean, reads_in, made_of, made_of_binding, made_of_type, words_have, words_named_in}
pub use Rattle.cdi_index.specs.Made.{words_of_observer, words_of_record, words_of_uses, words_of_point, words_written_in}
unfoldable pub use Rattle.cdi_index.specs.Made.{words_named}
pub use Rattle.cdi_index.specs.{Told.Tells, State.Staged, Under.words_by, Under.has_one}
pub use Rattle.cdi_index.proofs.NamedLemmas.{among-named}
pub use Rattle.cdi_intercept.specs.{Sets.own_at, Sets.set_by, Sets.places_of, Sets.has_place, Conflicts.has_conflict, Chains.chain_of}
pub use Rattle.cdi_resolve.specs.declared.choice.Choice.TheVariants.{One}
unfoldable pub use Rattle.cdi_resolve.specs.Choices.{chosen}
pub use Rattle.cdi_observe.specs.Keys.{Key, ChainKey, has_key, ChoiceKey, EventKey}
pub use Rattle.cdi_observe.proofs.{FoundLemmas.IsFound, FoundLemmas.each-found, KeyLemmas.each-passes}
pub use Rattle.cdi_observe.specs.{Answers.answer_to, Kept.EvaluatesSome}
pub use Rattle.cdi_observe.specs.Wanted.{points_of, point_named, wanted_by, AskForRest, asked_by, chains_by, events_by, key_of_point}
unfoldable pub use Rattle.cdi_observe.specs.Wanted.{is_wanted}
pub use Rattle.cdi_seen.specs.Touched.{still_known}
pub use Rattle.cdi_live.specs.State.{knows, State}
pub use Rattle.cdi_subjects.specs.{Rests.named_in, Subjects.subjects_at_fault}
pub use Rattle.cdi_concern.specs.{declared.moved.Moved.Moved, Concern.offered, Concern.reads_one, Concern.words_asking}
pub use Rattle.cdi_concern.specs.Concern.{is_concerned, words_writing, keys_of_classes, keys_of_stereotypes, keys_under, names_of_kind}
unfoldable pub use Rattle.cdi_concern.specs.Concern.{words_sought}
pub use Rattle.cdi_validate.specs.{Alike.IsAlike, Faults.faults_of, declared.deployment.Together.Together}
pub use Rattle.cdi_validate.specs.Among.{has_faults, faults_together, looks_at_all}
pub use Rattle.cdi_validate.specs.Together.{AreNamed, is_chainless, is_nameless, is_needless}
pub use Rattle.cdi_validate.proofs.{AmongLemmas.told-all, OnceLemmas.faults_stand_once}
pub use Rattle.cdi_report.specs.Spared.{AreQualifiersSpared, IsBindingSpared, IsSpared, IsNotEdited}
pub use Rattle.cdi_report.specs.Settled.{changed_of, is_changed, is_open, is_present, AreSettled, HaveNoneTogether, open_of, unchanged_of}
pub use Rattle.cdi_report.specs.{declared.unsettled.Unsettled.Unsettled, Stays.IsLeft, Known.IsKnown, Known.AreChainsKnown, Apart.IsApart}
pub use Rattle.cdi_report.specs.{Apart.IsStill, Unconcerned.IsUnconcerned, Positions.decls_at, Positions.is_at}
