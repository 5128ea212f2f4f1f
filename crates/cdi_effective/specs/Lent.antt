-- Bean declarations that are lent.
use Rattle.std.specs.Prelude.{List, map}
use Rattle.std.specs.Borrow.{Bor}
use Rattle.cdi_model.specs.declared.decl.BeanDecl.{BeanDecl}

abbrev pub beans_in : List (Bor BeanDecl) → List BeanDecl
beans_in lent = map (λ b. b.now) lent
