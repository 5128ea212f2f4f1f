-- Interceptors and bindings that are lent.
use Rattle.std.specs.Prelude.{List, map}
use Rattle.std.specs.Borrow.{Bor}
use Rattle.std.specs.Global.{Global}
use Rattle.std.specs.declared.vec.Vec.{Vec}
use Rattle.cdi_model.specs.declared.decl.InterceptorDecl.{InterceptorDecl}
use Rattle.cdi_model.specs.declared.place.BeanPlace.{BeanPlace}
use Rattle.cdi_model.specs.declared.quals.Qual.{Qual}
use Rattle.cdi_match.specs.Bindings.{uses_in}

abbrev pub lent_in : List (Bor InterceptorDecl) → List InterceptorDecl
lent_in lent = map (λ i. i.now) lent

-- a place, with the bindings there
abbrev pub uses_at : BeanPlace × Vec (Bor Qual) Global → BeanPlace × List Qual
uses_at z = (z.0, uses_in z.1.items)
