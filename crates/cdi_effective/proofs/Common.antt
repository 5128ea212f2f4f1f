-- The names that several proofs cite, passed on from one place. Declares nothing.
pub use Rattle.std.proofs.Common.{◌≡◌, ℕ, Bool, true, false, cond, ◌||◌, List, [], ◌∷◌, refl, sym, ap, ◌∙◌, zero, suc, Some, None, ◌++◌}
pub use Rattle.std.proofs.Common.{append_assoc, map, flat_map, ◌<◌, length, is_some, Option, subst, inl, inr, arith, option_map, slice_get}
pub use Rattle.std.proofs.Common.{nat_eq, true≢false, ◌+◌, drop, get_or, fold, Ordering, Less, Equal, Greater, ◌&&◌, not, filter, ◌⊎◌}
pub use Rattle.std.proofs.Common.{replicate, set, rules, ◌-◌}
pub use Rattle.std.specs.Str.{bytes_eq}
pub use Rattle.std.specs.List.{AllByRecursion, list_any}
unfoldable pub use Rattle.std.specs.List.{IsDistinct}
pub use Rattle.std.proofs.lemmas.Bool.{cases_Bool, false≢true, or_cases, or_left, or_right}
pub use Rattle.std.proofs.lemmas.Option.{slice_get_within}
pub use Rattle.std.specs.Option.{option_or, option_to_list}
pub use Rattle.std.proofs.Math.Bool.{or_assoc, or-false}
pub use Rattle.std.specs.Borrow.{Bor}
pub use Rattle.std.proofs.lemmas.List.{at_drop_more, map-append, get_or-replicate, length-replicate}
pub use Rattle.std.proofs.lemmas.Map.Made.{AllPairs-from_IsDistinct}
pub use Rattle.std.specs.Cmp.Lexicographic.{nat_list_cmp_total}
pub use Rattle.std.specs.Ordering.{is_lt}
pub use Rattle.std.proofs.lemmas.List.Sorted.{ranks_by}
unfoldable pub use Rattle.std.specs.List.Sorted.{IsStrictlySortedBy}
pub use Rattle.std.proofs.lemmas.List.Elements.{All-from_recursion}
pub use Rattle.std.specs.Cmp.{IsStrictWeakOrder}
pub use Rattle.std.proofs.lemmas.Grind.{common_steps}
pub use Rattle.std.proofs.lemmas.Result.{IfOk-weaker}
pub use Rattle.std.proofs.lemmas.Fn.{always_returns_same}
pub use Rattle.std.specs.BTreeSet.{contains}
pub use Rattle.base_lists.specs.Sorting.{put, sorted_by}
pub use Rattle.base_lists.proofs.Sorting.{all-sorted, any-sorted, Rises, sorted-rises}
pub use Rattle.base_numbers.proofs.Texts.{one_text, same_text, bytes_eq-turned}
pub use Rattle.base_numbers.proofs.Numbers.{nat_eq-same}
pub use Rattle.cdi_model.specs.declared.decl.Decl.{Decl}
pub use Rattle.cdi_model.specs.DeclList.{limit, find_decl}
pub use Rattle.cdi_model.specs.declared.decl.BeanDecl.{BeanDecl}
pub use Rattle.cdi_model.specs.declared.quals.Qual.{Qual}
pub use Rattle.cdi_model.specs.DeclKey.{key_at, same_key}
pub use Rattle.cdi_model.proofs.EditLemmas.{edits_keep_decl, avoid-first, avoid-second, avoid-head}
pub use Rattle.cdi_model.specs.Edits.{edited_all, edited_keys, is_among, Avoid}
pub use Rattle.cdi_model.specs.declared.edit.Edit.{Edit}
pub use Rattle.cdi_model.specs.Quals.{name_of_use}
pub use Rattle.cdi_model.specs.declared.decl.ProducerDecl.{ProducerDecl}
pub use Rattle.cdi_model.specs.Decl.{key_of, name_of_decl}
pub use Rattle.cdi_model.proofs.EntryLemmas.{key_exact}
pub use Rattle.cdi_model.proofs.PositionLemmas.{position-found, position-there}
pub use Rattle.cdi_model.proofs.QualLemmas.{same_name, turned_order}
pub use Rattle.cdi_model.specs.Bytes.{byte_order}
pub use Rattle.cdi_model.specs.UseText.{text_of_use}
pub use Rattle.cdi_model.specs.SameUse.{same_qual, same_qual-decides}
pub use Rattle.cdi_model.specs.BeanName.{default_name}
pub use Rattle.cdi_model.specs.declared.decl.Attributes.{Attributes}
pub use Rattle.cdi_model.specs.declared.key.DeclKey.{DeclKey}
pub use Rattle.cdi_match.specs.Chain.{has}
pub use Rattle.cdi_match.specs.Stereotypes.{find_stereotype}
unfoldable pub use Rattle.cdi_match.specs.Stereotypes.{stereotype_decls}
pub use Rattle.cdi_match.specs.Locality.{stereotype_reads, type_reads, binding_reads}
pub use Rattle.cdi_match.proofs.LocalityLemmas.{edits_keep_stereotypes, edits_keep_closure}
pub use Rattle.cdi_match.specs.Bindings.{uses_in}
pub use Rattle.cdi_match.specs.Types.{types_of}
pub use Rattle.cdi_match.proofs.Names.{at_name}
pub use Rattle.cdi_effective.specs.Specialized.{specialized, on_from, class_names, extended, all_declared, last_declared, last_name}
pub use Rattle.cdi_effective.specs.Specialized.{name_alone, chain, given_of, name_of, bean_named}
unfoldable pub use Rattle.cdi_effective.specs.Specialized.{chain_behind, behind, replaced_by, is_replaced}
pub use Rattle.cdi_effective.specs.Bindings.{stereotype_bindings, in_place_of, class_bindings}
pub use Rattle.cdi_effective.specs.Reads.{bean_keys, specialized_reads, link_reads, chain_reads, bean_reads, class_reads, product_reads}
pub use Rattle.cdi_effective.specs.Reads.{record_reads}
pub use Rattle.cdi_effective.specs.Disposers.{as_bean, find_bean}
pub use Rattle.cdi_effective.specs.Places.{ArePlaces, IsPlace, place_of, place_of_next, link_of}
pub use Rattle.cdi_effective.specs.TextOrder.{each_once, has_use, is_before_in_text, with_use, is_before_in_name, tell_order, written_in}
unfoldable pub use Rattle.cdi_effective.specs.TextOrder.{in_text_order}
pub use Rattle.cdi_effective.specs.Qualifiers.{built_in_of, qualifiers_of, uses_one}
pub use Rattle.cdi_effective.specs.declared.given.Given.{Given}
pub use Rattle.cdi_effective.specs.declared.records.Effective.{Effective}
pub use Rattle.cdi_effective.specs.Beans.{managed_origin, managed_where, product_of, records_where, entries, records, product, managed}
pub use Rattle.cdi_effective.specs.Beans.{is_kept, product_origin}
unfoldable pub use Rattle.cdi_effective.specs.Beans.{effective, beans}
pub use Rattle.cdi_effective.specs.declared.records.Origin.{Origin}
pub use Rattle.cdi_effective.specs.Given.{given_by, with_given}
pub use Rattle.cdi_effective.specs.Lent.{beans_in}
