use Rattle.std.proofs.Common.{◌≡◌, ◌++◌, flat_map}
use Rattle.std.specs.Option.{option_to_list}
use Rattle.cdi_subjects.specs.Subjects.{bad_use_in, bad_uses}
use Rattle.cdi_subjects.proofs.used.bad_uses.Given as goal

abbrev pub invariant-loop-mention : goal.invariant-loop-mention
invariant-loop-mention l = l.subjects.items ++ flat_map (λ m. option_to_list (bad_use_in l.decls m)) l.mention-iterator
    ≡ bad_uses l.decls l.decl
