use Rattle.cdi_index.proofs.Common.{◌≡◌, ◌||◌, map, DeclKey, key_at, same_key, is_among, take, contains}
use Rattle.cdi_model.specs.declared.decl.Kind.TheVariants as kinds
use Rattle.cdi_index.proofs.replaced.add_beans.Given as goal

abbrev pub invariant-loop-class : goal.invariant-loop-class
invariant-loop-class l = (k : DeclKey) → contains same_key l.beans k
    ≡ (contains same_key l.fn.beans k || is_among (map (key_at kinds.Bean) (take l.class-index l.classes)) k)
