-- The names that several proofs cite, passed on from one place. Declares nothing.
pub use Rattle.std.proofs.Common.{◌≡◌, List, ◌++◌, sym, ap, ◌∙◌, append_assoc, ◌<◌, ℕ, [], ◌∷◌, length, arith, ◌+◌, get_or, drop, Bool}
pub use Rattle.std.proofs.Common.{true, false, cond, map, filter, refl, AllPairs, not, ◌&&◌, subst, zero, suc, Some, ◌⊎◌, inl, inr}
pub use Rattle.std.proofs.Common.{append-nil, nat_le, ◌==◌, Ordering, Less, Equal, ◌||◌, Option, None, fold, take, ⊎_elim, is_some, nat_eq}
pub use Rattle.std.proofs.Common.{Greater, ◌≢◌, Vec, Global, ◌≤◌}
pub use Rattle.std.specs.List.{flat_map, AllByRecursion, find, slice_get, list_any, starts_with, list_all, AllZip}
pub use Rattle.std.proofs.lemmas.List.{nil_from_length, at_drop_more, length-append, map-append, take_more, drop_all, take_all}
pub use Rattle.std.proofs.lemmas.Bool.{eqb-true, false≢true, or_left, and_parts, or_cases, or_right, or_parts, eq-eqb, le-leb, leb-true}
pub use Rattle.std.specs.{Option.option_to_list, Option.unwrap_or, Str.bytes_eq, Map.keys_of, Map.lookup, Ordering.nat_cmp}
pub use Rattle.std.specs.{Ordering.ordering_then, BTreeSet.insert_key}
pub use Rattle.std.proofs.lemmas.List.Elements.{filter-append, filter_agree}
pub use Rattle.std.proofs.Math.Bool.{and-false, or-false, or_assoc, or_comm}
pub use Rattle.std.proofs.lemmas.{Option.same_Some, Option.none-some, Cmp.tied_itself, Cmp.nat_cmp_total, List.Folds.list_any-append}
pub use Rattle.std.proofs.lemmas.{Grind.flat_map-append, List.Sums.fold-append, List.Kept.IsStrictlySortedBy-filter, Result.IfOk-weaker}
unfoldable pub use Rattle.std.specs.List.Sorted.{IsStrictlySortedBy}
pub use Rattle.std.specs.BTreeMap.{BTreeMap, get, is_at, keys, values}
pub use Rattle.std.specs.Cmp.Lexicographic.{slice_cmp, nat_list_cmp_total}
pub use Rattle.base_lists.proofs.{Each.all-weaker, Each.all-each, Each.all-append, Each.all-back, Flat.flat-filter, Flat.flat-empty}
pub use Rattle.base_numbers.proofs.Texts.{same_text, one_text, other_text}
pub use Rattle.cdi_model.specs.{declared.decl.Decl.Decl, declared.decl.BeanDecl.BeanDecl, Bytes.dot, Bytes.slash, Bytes.byte_order}
pub use Rattle.cdi_model.specs.{Decl.name_of_decl, Decl.kind_of, Decl.key_of, declared.decl.InterceptorDecl.InterceptorDecl}
pub use Rattle.cdi_model.specs.{declared.decl.PointDecl.PointDecl, declared.place.BeanPlace.BeanPlace, Mentions.Mention, Mentions.PointOf}
pub use Rattle.cdi_model.specs.{declared.key.DeclKey.DeclKey, declared.quals.Qual.Qual, DeclKey.same_key}
pub use Rattle.cdi_model.specs.DeclList.{AreDistinct, find_decl, is_of, limit}
pub use Rattle.cdi_model.specs.Grammar.{begins, is_letter, is_name, is_word, continues}
unfoldable pub use Rattle.cdi_model.specs.Mentions.{mentions}
pub use Rattle.cdi_model.proofs.QualLemmas.{same_name}
pub use Rattle.cdi_bodies.specs.Book.{Promised}
pub use Rattle.cdi_match.specs.{Chain.has, Chain.Circle, Chain.leads, Chain.Steps, Order.in_order}
pub use Rattle.cdi_match.proofs.Names.{at_name, has-by_order}
pub use Rattle.cdi_match.proofs.OrderLemmas.{in_order-has, in_order-rises, one_order}
unfoldable pub use Rattle.cdi_effective.specs.{Records.records_in, Beans.effective, Beans.beans}
pub use Rattle.cdi_effective.specs.{Specialized.chain, Specialized.class_names, BeanText.text_of_id, Disposers.as_bean, Disposers.find_bean}
pub use Rattle.cdi_effective.specs.{declared.records.Effective.Effective, declared.records.BeanId.BeanId}
unfoldable pub use Rattle.cdi_effective.specs.Specialized.{is_replaced, behind}
pub use Rattle.cdi_effective.specs.Beans.{entries, managed, product_where}
pub use Rattle.cdi_effective.proofs.PlaceLemmas.{own-found}
pub use Rattle.cdi_intercept.specs.{Chains.is_enabled}
unfoldable pub use Rattle.cdi_intercept.specs.Chains.{stands_around}
pub use Rattle.cdi_resolve.specs.{Choices.candidate, Choices.is_named, declared.leaders.Leaders.Leaders}
unfoldable pub use Rattle.cdi_resolve.specs.Choices.{choice_of, chosen_by_name, named}
pub use Rattle.cdi_resolve.specs.Leaders.{leading, nobody, with_candidate}
pub use Rattle.cdi_resolve.proofs.PlaceLemmas.{next-left, rise-next}
pub use Rattle.cdi_observe.specs.{Answers.answer_to, Wanted.point_named, Wanted.key_of_point, Lending.are_answerable}
unfoldable pub use Rattle.cdi_observe.specs.Around.{names_of_bean}
pub use Rattle.cdi_observe.proofs.{AroundLemmas.stands-named, FoundLemmas.IsFound}
pub use Rattle.cdi_observe.proofs.LendingLemmas.{chains-answerable, points-answerable}
pub use Rattle.cdi_faults.specs.{declared.fault.Fault.Fault, FaultText.text_of_fault}
unfoldable pub use Rattle.cdi_faults.specs.FaultText.{in_text_order}
pub use Rattle.cdi_faults.proofs.OrderLemmas.{subjects_in_order}
pub use Rattle.cdi_subjects.proofs.AnsweredLemmas.{points-declared}
pub use Rattle.cdi_subjects.specs.Subjects.{is_ambiguous}
pub use Rattle.cdi_validate.specs.Twice.{enabled_bean, enabled_beans, faults_of_pairs, faults_of_two, in_line_order, of_pairs, twice}
pub use Rattle.cdi_validate.specs.{Twice.with_line, Alike.IsAlike, Together.names_by, Together.AreNamesApart, Together.HaveNoClash}
pub use Rattle.cdi_validate.specs.{Faults.faults_of_code, Faults.LinesRise, Faults.goes_on, Names.leaders_in, Names.AreLed, Names.AreNames}
pub use Rattle.cdi_validate.specs.{Names.prefix_pairs, Among.faults_together, Among.looks_at_all, Among.has_faults}
unfoldable pub use Rattle.cdi_validate.specs.{Twice.specialized_twice, Twice.by_line, Circles.circular, Circles.needs_itself, Faults.faults}
pub use Rattle.cdi_validate.specs.Linked.{is_first_enabled, specializing, specializing_by, faults_between, faults_of_chains, first_marked}
pub use Rattle.cdi_validate.specs.Linked.{has_position, is_marked, links_to, KeepsChain}
pub use Rattle.cdi_validate.specs.Together.{is_chainless, dependents_in, HaveNoCircle, is_empty, is_needless, AreNamed, is_nameless}
pub use Rattle.cdi_validate.specs.Circles.{between, dependents, needed_by, Need, chosen_for, is_dependent, managed_id}
pub use Rattle.cdi_validate.specs.Circles.{need_around, need_in, needs_in, dependents_by_text, with_dependent, needs}
pub use Rattle.cdi_validate.specs.Faults.{name_clashes, enabled_names, enabled_name, circles, faults_of, name_prefixes, circle}
