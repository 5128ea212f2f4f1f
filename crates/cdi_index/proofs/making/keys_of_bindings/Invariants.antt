use Rattle.cdi_index.proofs.Common.{◌≡◌, map, key_at, name_of_use, take}
use Rattle.cdi_model.specs.declared.decl.Kind.TheVariants as kinds
use Rattle.cdi_index.proofs.making.keys_of_bindings.Given as goal

abbrev pub invariant-loop-binding : goal.invariant-loop-binding
invariant-loop-binding l = l.keys ≡ map (λ u. key_at kinds.Binding (name_of_use u)) (take l.binding-index l.bindings)
