use Rattle.cdi_live.proofs.Common.{◌≡◌, List, bytes_eq, ℕ, ◌||◌, is_among, key_at, take, contains}
use Rattle.cdi_model.specs.declared.decl.Kind.TheVariants as kinds
use Rattle.cdi_live.proofs.event_suspects.add_types.Given as goal

abbrev pub invariant-loop-key : goal.invariant-loop-key
invariant-loop-key l = (t : List ℕ) → contains bytes_eq l.types t
    ≡ (contains bytes_eq l.fn.types t || is_among (take l.key-index l.keys) (key_at kinds.Type t))
