-- The names that several proofs cite, passed on from one place. Declares nothing.
pub use Rattle.std.proofs.Common.{◌≡◌, ◌<◌, ℕ, zero, suc, Bool, true, false, cond, List, [], ◌∷◌, length, Option, Some, None, option_map}
pub use Rattle.std.proofs.Common.{refl, sym, ap, ◌∙◌, position, slice_get, slice_index_or, arith, not, ◌++◌, is_some, inl, inr, ◌+◌, ◌≤◌}
pub use Rattle.std.proofs.Common.{map, get_or, subst, slice_set, flat_map, append_assoc, nat_le, Global, nat_eq, ◌-◌, ◌≢◌, drop}
pub use Rattle.std.proofs.Common.{MatchOption, rules, take, replicate}
pub use Rattle.std.specs.List.{AllByRecursion, insert, remove}
unfoldable pub use Rattle.std.specs.List.{IsDistinct}
pub use Rattle.std.proofs.lemmas.Bool.{cases_Bool, both_ways, and_parts, eqb-true, and_from, false≢true, leb-true, le-leb}
pub use Rattle.std.specs.Cmp.Lexicographic.{bytes_decides}
pub use Rattle.std.specs.Prelude.{◌==◌, ◌↔◌}
pub use Rattle.std.proofs.lemmas.Option.{same_Some}
pub use Rattle.std.specs.declared.rc.Rc.{Rc}
pub use Rattle.indexmap.specs.IndexMap.{insert_entry}
pub use Rattle.std.specs.Map.{keys_of}
pub use Rattle.std.proofs.lemmas.Bool.Decides.{nat_tests}
pub use Rattle.std.specs.Fmt.{signed_decimal, HasWritten, IsPlainFormatter}
pub use Rattle.std.proofs.lemmas.List.{length-set}
pub use Rattle.base_lists.proofs.Places.{position-cons, position-map}
pub use Rattle.cdi_positions.specs.Marks.{is_marked, marked_count, count_below}
pub use Rattle.cdi_model.specs.declared.decl.Decl.{Decl}
pub use Rattle.cdi_model.specs.declared.decl.Kind.{Kind}
pub use Rattle.cdi_model.specs.declared.key.DeclKey.{DeclKey}
pub use Rattle.cdi_model.specs.DeclKey.{same_key, key_at, same_key_equiv}
pub use Rattle.cdi_model.specs.Decl.{key_of, kind_of, name_of_decl}
pub use Rattle.cdi_model.specs.DeclList.{find_decl, put_in, remove_from, is_of, is_too_many}
pub use Rattle.cdi_model.specs.declared.edit.Edit.TheVariants.{Put, Remove}
pub use Rattle.cdi_model.specs.Edits.{edited, edited_all, edited_keys, is_among, others}
pub use Rattle.cdi_model.specs.Quals.{AreInOrder}
pub use Rattle.cdi_model.specs.Bytes.{dot, equals_sign}
pub use Rattle.cdi_model.specs.CallText.{around_dot}
pub use Rattle.cdi_model.specs.Grammar.{is_letter, is_word, are_words, is_ident_text, is_ident, begins, goes_on, is_name, JoinsIdentifiers}
pub use Rattle.cdi_model.specs.Entries.{Entry, decls_of, AreKeyed}
pub use Rattle.cdi_model.specs.BeanName.{has_dot, last_identifier, lowered}
pub use Rattle.cdi_model.specs.Layers.{shared_in, kept, keys_in, changed_by, is_at, AreMarked, AreListed, AreKept}
pub use Rattle.cdi_model.specs.declared.kept.Replaced.{Replaced}
pub use Rattle.cdi_model.specs.Mentions.{of_point}
