use Rattle.cdi_index.proofs.Common.{◌≡◌, map, key_at, is_among, drop}
use Rattle.cdi_model.specs.declared.decl.Kind.TheVariants as kinds
use Rattle.cdi_index.proofs.replaced.replaces.Given as goal

abbrev pub invariant-loop-class : goal.invariant-loop-class
invariant-loop-class l = is_among (map (key_at kinds.Bean) (drop l.class-index l.made.replaces)) l.key
    ≡ is_among (map (key_at kinds.Bean) l.made.replaces) l.key
