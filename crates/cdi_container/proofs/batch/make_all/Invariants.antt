use Rattle.cdi_container.proofs.Common.{◌≡◌, length, ◌+◌, changes_of_all, drafted_all, first_refusal, AreShort, into_iter_items, asked_by}
use Rattle.std.specs.Vec.Iter.{into_iter_len}
use Rattle.cdi_container.proofs.batch.make_all.Given as goal

abbrev pub invariant-loop-edit : goal.invariant-loop-edit
invariant-loop-edit l = record {
  left : drafted_all l.fn.draft (changes_of_all l.fn.edits.items) ≡ drafted_all l.draft (changes_of_all (into_iter_items l.edit-iterator));
  refused : first_refusal 1 l.fn.draft.decls (asked_by l.fn.edits.items)
      ≡ first_refusal (l.number + 1) l.draft.decls (asked_by (into_iter_items l.edit-iterator));
  short : AreShort l.draft.decls;
  count : l.number + length (into_iter_items l.edit-iterator) ≡ length l.fn.edits.items;
  length_is : into_iter_len l.edit-iterator ≡ length (into_iter_items l.edit-iterator);
}
