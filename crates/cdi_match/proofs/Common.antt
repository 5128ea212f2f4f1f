-- The names that several proofs cite, passed on from one place. Declares nothing.
pub use Rattle.std.proofs.Common.{◌≡◌, ℕ, zero, suc, Bool, true, false, cond, ◌||◌, ◌↔◌, List, [], ◌∷◌, length, filter, refl, sym, ◌∙◌, ap}
pub use Rattle.std.proofs.Common.{inl, inr, ◌++◌, flat_map, map, subst, arith, ◌≤◌, Option, Some, None, ◌<◌, ◌+◌, not, ◌&&◌, length-append}
pub use Rattle.std.proofs.Common.{◌⊎◌, ℤ, fold, Ordering, Less, Equal, Greater, is_some, position, slice_index_or, slice_set, drop, take}
pub use Rattle.std.proofs.Common.{rules, tests}
pub use Rattle.std.specs.Bool.{Decides}
unfoldable pub use Rattle.std.specs.List.Sorted.{IsStrictlySortedBy}
pub use Rattle.std.specs.Str.{bytes_eq}
pub use Rattle.std.specs.Cmp.Lexicographic.{bytes_decides}
pub use Rattle.std.proofs.lemmas.Bool.{cases_Bool, or_left, or_right, or_cases, false≢true, or_parts, both_ways, not-true, not-false}
pub use Rattle.std.proofs.lemmas.Bool.Decides.{Decides-at, same_from_decides, Decides-like}
pub use Rattle.std.specs.List.{list_any, list_all}
pub use Rattle.std.specs.BTreeMap.{is_at}
pub use Rattle.std.proofs.lemmas.List.Folds.{list_any-append}
pub use Rattle.std.specs.Option.{option_or, option_to_list}
pub use Rattle.std.specs.Map.{keys_of}
pub use Rattle.std.proofs.lemmas.Grind.{common_steps}
pub use Rattle.base_numbers.proofs.Texts.{same_text, bytes_eq-turned, one_text}
pub use Rattle.cdi_positions.proofs.MarkLemmas.{HasOneMore}
pub use Rattle.cdi_model.specs.declared.decl.Decl.{Decl}
pub use Rattle.cdi_model.specs.Bytes.{byte_order}
pub use Rattle.cdi_model.specs.Quals.{name_of_use}
pub use Rattle.cdi_model.specs.declared.quals.Qual.{Qual}
pub use Rattle.cdi_model.specs.declared.decl.Kind.{Kind}
pub use Rattle.cdi_model.specs.DeclKey.{key_at}
pub use Rattle.cdi_model.specs.Decl.{name_of_decl}
pub use Rattle.cdi_model.specs.DeclList.{find_decl, is_of}
pub use Rattle.cdi_model.specs.declared.decl.MemberDecl.{MemberDecl}
pub use Rattle.cdi_match.specs.Chain.{Chain, has, leads, LeaveOnly, Steps, ChainFromOne, reaches_from_one}
pub use Rattle.cdi_match.specs.Types.{supers, supers_of, object}
unfoldable pub use Rattle.cdi_match.specs.Types.{is_reached, is_type, types_of}
pub use Rattle.cdi_match.specs.Bindings.{brought, brought_by, uses_in}
unfoldable pub use Rattle.cdi_match.specs.Bindings.{brings_type, types_brought, with_brought}
pub use Rattle.cdi_match.specs.Filling.{as_binding, Values, value_of, with_default, default_of, value_or_default, fill, declared_of}
pub use Rattle.cdi_match.specs.declared.followers.Links.{Links}
pub use Rattle.cdi_match.specs.Search.{Adds, Closing, next_of, is_led_to}
pub use Rattle.cdi_match.specs.Stereotypes.{as_stereotype}
unfoldable pub use Rattle.cdi_match.specs.Stereotypes.{has_stereotype, stereotypes_of}
pub use Rattle.cdi_match.specs.Order.{in_order}
pub use Rattle.cdi_match.specs.declared.walk.Walk.{Walk}
pub use Rattle.cdi_match.specs.Walk.{listing_among, has_mark, HasMarks, HasNames, IsWalking, Meets, tasks}
pub use Rattle.cdi_match.specs.Covering.{agree_at, agrees_by, AgreesBy, given_name, counted}
