use Rattle.std.proofs.Common.{◌≡◌, ◌++◌, flat_map}
use Rattle.std.specs.Option.{option_to_list}
use Rattle.cdi_subjects.specs.Subjects.{bad_kind_in, bad_kinds}
use Rattle.cdi_subjects.proofs.forms.bad_kinds.Given as goal

abbrev pub invariant-loop-mention : goal.invariant-loop-mention
invariant-loop-mention l = l.subjects.items ++ flat_map (λ m. option_to_list (bad_kind_in l.decls l.decl m)) l.mention-iterator
    ≡ bad_kinds l.decls l.decl
