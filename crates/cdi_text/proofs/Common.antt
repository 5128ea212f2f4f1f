-- The names that several proofs cite, passed on from one place. Declares nothing.
pub use Rattle.std.proofs.Common.{◌≡◌, ◌≤◌, ℕ, nat_lt, Bool, true, false, not, ◌||◌, ◌&&◌, ◌==◌, List, [], ◌∷◌, length, Option, Some, None}
pub use Rattle.std.proofs.Common.{is_some, option_and_then, refl, ap, inl, inr, codes, cond, Result, Ok, Err, sym, subst, ◌∙◌, arith, ◌+◌}
pub use Rattle.std.proofs.Common.{unwrap_or, option_map, IfOk, suc, ◌-◌, ◌<◌, ◌++◌, zero, map, ◌⊎◌, drop, get_or, Bor, string_bytes}
pub use Rattle.std.proofs.lemmas.Bool.{or_parts, and_parts, and_from, or_cases, false≢true, not-false, true≢false, or_from, or_left}
pub use Rattle.std.proofs.lemmas.{Bool.or_right, Option.none-some, Option.same_Some, Bool.Decides.nat_tests, Result.IfOk-weaker}
pub use Rattle.std.specs.{Cmp.Lexicographic.bytes_decides, List.AllByRecursion, List.filter, List.range_with_len, List.list_any}
pub use Rattle.std.specs.{List.flat_map, Str.bytes_eq, Prelude.ok_or, Result.is_ok, Result.result_ok, Option.option_to_list}
pub use Rattle.toml.specs.Data.{Data, string, array, table, Items, no_items, item, as_str, as_array, Members, no_members, member}
pub use Rattle.toml.specs.{Data.get_member, Data.as_table, Data.get_item, Text.are_tables, declared.value.Value.Value}
pub use Rattle.toml.specs.View.{view, items_view, members_view, array_view, table_view}
pub use Rattle.cdi_model.specs.{Grammar.is_name, Quals.list_limit, Answering.Answers, declared.refusal.Error.Error}
pub use Rattle.cdi_model.specs.{declared.refusal.Refusal.Refusal, Short.IsShortPart, declared.decl.Decl.Decl, declared.decl.Kind.Kind}
pub use Rattle.cdi_model.specs.{declared.decl.PartDecl.PartDecl, Mentions.of_part, declared.decl.PointDecl.PointDecl}
pub use Rattle.cdi_model.specs.declared.refusal.Refusal.TheVariants.{NotToml, TooLong}
pub use Rattle.cdi_model.specs.declared.place.PartPlace.{PartPlace}
pub use Rattle.cdi_uses.specs.{Events.is_event_use, Events.event_of, Twice.has_twice, Twice.is_text_among}
pub use Rattle.cdi_uses.specs.Uses.{is_use, is_named, use_name, is_own_use, quals_from, use_of}
pub use Rattle.cdi_admission.specs.Admission.{is_built_in, is_long, is_long_part, is_malformed}
pub use Rattle.cdi_admission.proofs.AnyLemmas.{HasNone, none-append, none-false, none-flat_map, none-map}
pub use Rattle.cdi_admission.specs.TextSets.{has_text, HasTexts}
pub use Rattle.cdi_text.specs.{declared.schema.Schema.Schema, declared.schema.Shape.Shape, declared.schema.Item.Item}
pub use Rattle.cdi_text.specs.{declared.conditions.Condition.Condition, Spelled.quals_at, Spelled.texts, Spelled.texts_at, Schema.Row}
pub use Rattle.cdi_text.specs.{Schema.rows, Schema.shape_of, Schema.row_view, Shapes.fit_item, Grammar.misspell, Grammar.is_misspelt}
pub use Rattle.cdi_text.specs.{Lists.count_of, Lists.some_is_long, Lists.labels_of, Lists.some_repeats, Meaning.HasKey, Meaning.IsFirst}
pub use Rattle.cdi_text.specs.declared.schema.Shape.TheVariants.{One, Many}
pub use Rattle.cdi_text.specs.declared.schema.Item.TheVariants.{Declared, Name, OwnUse, ObservedUse, Use, Event, Table, Call}
pub use Rattle.cdi_text.specs.declared.conditions.Condition.TheVariants.{UnknownKey, MissingKey, WrongKind, BadName, Twice, ListTooLong}
pub use Rattle.cdi_text.specs.Spelled.{text_at, with_front, items_at, calls_in, calls_at, events_in, events_at, one_at, each, each_at}
pub use Rattle.cdi_text.specs.Spelled.{part_decl, method_decl, point_decl, producer_decl, observer_decl, bean_decl, interceptor_decl}
pub use Rattle.cdi_text.specs.Conditions.{value_has, inside_has, items_have, members_have, holds, first_of, is_sound_value, are_sound}
pub use Rattle.cdi_text.specs.Conditions.{table_has, holds_name, holds_ident, is_required, lacks_some, first_condition}
unfoldable pub use Rattle.cdi_text.specs.Conditions.{is_sound}
pub use Rattle.cdi_text.specs.Reading.{refused_or, tree_of, decl_of, decl_of_tree, decl_of_members, schema_of, spelled}
pub use Rattle.cdi_text.specs.Params.{has_param_among, has_such_param_at, tables_of, FindsMethod, is_such}
pub use Rattle.cdi_text.specs.declared.steps.Step.TheVariants.{Entry, Key}
