-- The names that several proofs cite, passed on from one place. Declares nothing.
pub use Rattle.std.proofs.Common.{◌≡◌, Bool, true, false, ◌||◌, List, [], ◌∷◌, map, Option, refl, sym, ap, ◌∙◌, ◌++◌, ◌+◌, cond, ℕ, ◌&&◌}
pub use Rattle.std.proofs.Common.{Some, None, option_map, inr, is_some, suc, length, filter, slice_get, zero, get_or, position, inl, ◌<◌}
pub use Rattle.std.proofs.Common.{nat_eq, ◌⊎◌, take, ◌≢◌, arith, ◌≤◌, length-append, flat_map, Result, Ok, Err, not, subst, drop, vec_len, ◌-◌, nat_lt}
pub use Rattle.std.specs.List.{list_any, AllByRecursion}
unfoldable pub use Rattle.std.specs.List.{IsDistinct}
pub use Rattle.std.proofs.lemmas.Bool.{or_parts, or_left, false≢true, or_right, and_from, or_cases, eqb-true, and_parts}
pub use Rattle.std.specs.Str.{bytes_eq}
pub use Rattle.std.proofs.lemmas.List.Folds.{list_any_more, list_any-append}
pub use Rattle.std.specs.Option.{option_map_or, option_to_list}
pub use Rattle.std.specs.Result.{OnOk}
pub use Rattle.std.specs.Map.{lookup}
pub use Rattle.indexmap.specs.IndexMap.{get, spare}
pub use Rattle.std.proofs.Math.Bool.{or-false}
pub use Rattle.std.proofs.lemmas.List.{length-map, take_all}
pub use Rattle.indexmap.specs.IndexSet.{contains}
pub use Rattle.std.proofs.lemmas.Result.{IfOk-weaker}
pub use Rattle.base_lists.proofs.Any.{any-same, any-or, any-more}
pub use Rattle.base_numbers.proofs.Numbers.{nat_eq-refl}
pub use Rattle.base_numbers.proofs.Texts.{bytes_eq-turned}
pub use Rattle.base_options.proofs.Booleans.{and-false, same-bool}
pub use Rattle.cdi_model.specs.declared.key.DeclKey.{DeclKey}
pub use Rattle.cdi_model.specs.DeclKey.{same_key, same_key_equiv, key_at}
pub use Rattle.cdi_model.proofs.EntryLemmas.{key_exact}
pub use Rattle.cdi_model.specs.declared.decl.BeanDecl.{BeanDecl}
pub use Rattle.cdi_model.specs.declared.decl.BindingDecl.{BindingDecl}
pub use Rattle.cdi_model.specs.declared.decl.Decl.{Decl}
pub use Rattle.cdi_model.specs.declared.decl.Kind.{Kind}
pub use Rattle.cdi_model.specs.declared.edit.Edit.{Edit}
pub use Rattle.cdi_model.specs.DeclList.{find_decl, is_of, AreDistinct}
pub use Rattle.cdi_model.specs.Edits.{edited_all, edited_keys, is_among}
pub use Rattle.cdi_model.proofs.EditLemmas.{edits_keep_decl}
pub use Rattle.cdi_model.specs.declared.quals.Qual.{Qual}
pub use Rattle.cdi_model.specs.Quals.{name_of_use}
pub use Rattle.cdi_model.specs.Decl.{key_of, kind_of, name_of_decl}
pub use Rattle.cdi_model.proofs.PositionLemmas.{position-there}
pub use Rattle.cdi_model.specs.Mentions.{Mention, BodyOf, CallOf, EventOf, MethodOf, PointOf, StereotypeOf, TypeIn, UseOf}
unfoldable pub use Rattle.cdi_model.specs.Mentions.{mentions}
pub use Rattle.cdi_match.specs.Filling.{find_binding}
pub use Rattle.cdi_match.specs.Locality.{type_reads}
pub use Rattle.cdi_match.specs.Chain.{has}
pub use Rattle.cdi_effective.specs.declared.records.Effective.{Effective}
pub use Rattle.cdi_effective.specs.Beans.{own_records, entries, unless_replaced}
unfoldable pub use Rattle.cdi_effective.specs.Beans.{beans}
pub use Rattle.cdi_effective.specs.Disposers.{as_bean, find_bean}
pub use Rattle.cdi_effective.specs.Reads.{record_reads}
unfoldable pub use Rattle.cdi_effective.specs.Specialized.{replaced_by, is_replaced}
unfoldable pub use Rattle.cdi_effective.specs.Records.{records_in}
pub use Rattle.cdi_effective.specs.Qualifiers.{required}
pub use Rattle.cdi_effective.proofs.RecordLemmas.{records_are_own}
pub use Rattle.cdi_postings.specs.declared.word.Word.{Word}
pub use Rattle.cdi_postings.specs.Listing.{Listing, is_listed, Lists, under}
pub use Rattle.cdi_postings.specs.Words.{same_word, word_at}
pub use Rattle.cdi_index.specs.declared.replaced.Turn.{Turn}
pub use Rattle.cdi_index.specs.Replaced.{turned, keys_changed, keys_turned, made_after, lent, is_at_stake, replaced_records, AreReplaced}
pub use Rattle.cdi_index.specs.Replaced.{is_replaced_anew, is_replaced_still, records_after, turn_by}
pub use Rattle.cdi_index.specs.declared.making.Made.{Made}
pub use Rattle.cdi_index.specs.Made.{is_kept, made_of, made_of_bean, made_of_binding, made_of_interceptor, made_of_type, reads, words_have}
pub use Rattle.cdi_index.specs.Made.{classes_have, has_word, keys_have, made_by, words_named_in, words_of_observer, words_of_record}
pub use Rattle.cdi_index.specs.Made.{words_of_uses, word_of, words_written_in}
unfoldable pub use Rattle.cdi_index.specs.Made.{words_named}
pub use Rattle.cdi_index.specs.declared.change.Change.{Change}
pub use Rattle.cdi_index.specs.Counted.{is_of_kind, computed, is_recorded}
pub use Rattle.cdi_index.specs.Kept.{Stored, made_in, Keeps, stored, IsExact, IsShelf, IsSound, kept_at, slot_of, stored_at}
pub use Rattle.cdi_index.specs.Kept.{is_reader_among, number_in, touches}
pub use Rattle.cdi_index.specs.Slots.{kept_of}
pub use Rattle.cdi_index.specs.Next.{applied, change_of, is_made, stored_as, IsNext}
pub use Rattle.cdi_index.specs.declared.shelf.Shelf.{Shelf}
pub use Rattle.cdi_index.specs.Told.{Tells}
pub use Rattle.cdi_index.specs.declared.shelf.Kept.{Kept}
pub use Rattle.cdi_index.specs.Under.{words_by, beans_under, has_one, has_name}
pub use Rattle.cdi_index.specs.Under.{observes_one, is_sought}
pub use Rattle.cdi_index.specs.Asked.{asks_in, is_asked}
unfoldable pub use Rattle.cdi_index.specs.Asked.{asks_for}
pub use Rattle.cdi_index.specs.AskedAt.{is_asker}
pub use Rattle.cdi_index.specs.declared.asked.Asked.{Asked}
pub use Rattle.cdi_index.specs.State.{State}
