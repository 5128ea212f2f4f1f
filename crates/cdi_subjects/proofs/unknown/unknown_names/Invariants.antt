use Rattle.std.proofs.Common.{◌≡◌, ◌++◌, flat_map}
use Rattle.std.specs.Option.{option_to_list}
use Rattle.cdi_subjects.specs.Subjects.{unknown_in, unknown_names}
use Rattle.cdi_subjects.proofs.unknown.unknown_names.Given as goal

abbrev pub invariant-loop-mention : goal.invariant-loop-mention
invariant-loop-mention l = l.subjects.items ++ flat_map (λ m. option_to_list (unknown_in l.decls m)) l.mention-iterator
    ≡ unknown_names l.decls l.decl
