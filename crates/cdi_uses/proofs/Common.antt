-- The names that several proofs cite, passed on from one place. Declares nothing.
pub use Rattle.std.proofs.Common.{◌≡◌, ℕ, ℤ, pos, suc, ◌+◌, ◌-◌, ◌*◌, ◌<◌, ◌≤◌, Bool, true, false, List, [], ◌∷◌, ◌++◌, length, Option}
pub use Rattle.std.proofs.Common.{Some, None, refl, ap, sym, ◌∙◌, inl, inr, arith, ◌==◌, option_map, ◌≢◌, map, codes, subst, Less, Greater}
pub use Rattle.std.proofs.Common.{Ok, append_assoc, append-nil, ◌||◌, cond, Ordering, take, get_or, drop}
pub use Rattle.std.specs.Prelude.{nat_le, neg_ℤ, ◌↔◌, not, unwrap_or}
pub use Rattle.std.specs.List.{AllByRecursion, join_with_byte, list_all, list_any}
pub use Rattle.std.proofs.lemmas.Bool.{cases_Bool, and_parts, and_from, leb-true, ne_eqb, eqb-true, not-true, false≢true}
pub use Rattle.std.proofs.lemmas.Option.{none-some, same_Some}
unfoldable pub use Rattle.std.specs.List.Sorted.{IsStrictlySortedBy}
pub use Rattle.std.specs.Str.{bytes_eq}
pub use Rattle.std.specs.BTreeMap.{insert_entry}
pub use Rattle.std.specs.Map.{keys_of}
pub use Rattle.std.specs.Ordering.{nat_cmp, ordering_reverse, is_eq}
pub use Rattle.std.specs.Cmp.Lexicographic.{slice_cmp, nat_list_cmp_total}
pub use Rattle.std.proofs.lemmas.Map.Text.{is_eq-slice_cmp}
pub use Rattle.std.specs.BTreeSet.{contains}
pub use Rattle.std.proofs.lemmas.List.{drop_more}
pub use Rattle.cdi_model.specs.Bytes.{digit_zero, minus, closing, comma, opening, space, equals_sign}
pub use Rattle.cdi_model.specs.Grammar.{is_name}
pub use Rattle.cdi_model.specs.UseText.{text_of_use}
pub use Rattle.cdi_model.specs.declared.quals.Qual.{Qual}
pub use Rattle.cdi_uses.specs.Numbers.{is_digit, value_after, magnitude, within, number_of}
pub use Rattle.cdi_uses.specs.Pieces.{cut, split, pieces, left_of}
pub use Rattle.cdi_uses.specs.Events.{is_event_use, uses_in}
pub use Rattle.cdi_uses.specs.Meaning.{SpellsUse, WritesMember, IsMember, CanBeSpelled}
pub use Rattle.cdi_uses.specs.Reading.{qual_of}
pub use Rattle.cdi_uses.specs.Twice.{has_twice, is_text_among}
pub use Rattle.cdi_uses.specs.Uses.{is_use, use_name, use_of, repeats_member, quals_from, with_pair, members_from, arguments_inside}
pub use Rattle.cdi_uses.specs.Uses.{arguments_in, are_pairs, before_close, is_named, member_names}
