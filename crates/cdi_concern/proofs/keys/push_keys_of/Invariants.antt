use Rattle.std.proofs.Common.{◌≡◌, ◌++◌, map}
use Rattle.std.specs.Prelude.{take}
use Rattle.cdi_model.specs.Decl.{key_of}
use Rattle.cdi_concern.proofs.keys.push_keys_of.Given as goal

abbrev pub invariant-loop-decl : goal.invariant-loop-decl
invariant-loop-decl l = l.keys.items ≡ l.fn.keys.items ++ map key_of (map (λ d. d.now) (take l.decl-index l.decls))
