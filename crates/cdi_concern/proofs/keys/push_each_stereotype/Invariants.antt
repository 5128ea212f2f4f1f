use Rattle.std.proofs.Common.{◌≡◌, ◌++◌, filter, map}
use Rattle.cdi_model.specs.Decl.{key_of}
use Rattle.cdi_concern.specs.Concern.{is_stereotype}
use Rattle.cdi_concern.proofs.keys.push_each_stereotype.Given as goal

abbrev pub invariant-loop-decl : goal.invariant-loop-decl
invariant-loop-decl l = l.keys.items ++ map key_of (filter is_stereotype l.decl-iterator)
    ≡ l.fn.keys.items ++ map key_of (filter is_stereotype l.decls)
