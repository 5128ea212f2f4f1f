-- Beans that are lent.
use Rattle.std.specs.Prelude.{List, map}
use Rattle.std.specs.Borrow.{Bor}
use Rattle.cdi_effective.specs.declared.records.Effective.{Effective}

abbrev pub lent_in : List (Bor Effective) → List Effective
lent_in lent = map (λ bean. bean.now) lent
