-- That what is kept between commands is right.
use Rattle.std.specs.Prelude.{◌≡◌, Bool, true, List, Option, IfSome}
use Rattle.cdi_model.specs.Short.{AreShort}
use Rattle.cdi_bodies.specs.Book.{Promised}
use Rattle.cdi_live.specs.State.{State as Live, knows}
use Rattle.cdi_report.specs.Settled.{AreSettled}
use Rattle.cdi_report.specs.Stays.{IsReadied}
use Rattle.cdi_report.specs.declared.unsettled.Unsettled.{Unsettled}
use Rattle.cdi_wiring.specs.Wired.{IsWiringOf}
use Rattle.cdi_wiring.specs.declared.verdict.Wiring.{Wiring}
use Rattle.cdi_container.specs.Wired.{KnowsAll}

-- A wiring that is there is right, and all that is wanted is known.
abbrev pub IsWiredRight : Live → List Promised → Option Wiring → Type 0
IsWiredRight live book wiring = IfSome wiring (λ w. IsWiringOf live.decls book w × KnowsAll live)

-- The lists of the declarations are short, and so it is with the wiring. The declarations at which the next report does not look have no
-- faults. If what is staged is readied, it concerns none of them.
pub record IsKept (live : Live) (book : List Promised) (wiring : Option Wiring) (u : Unsettled) (is_readied : Bool) : Type 0 where
  pub short : AreShort live.decls
  pub wired : IsWiredRight live book wiring
  pub settled : AreSettled live.decls (knows live) book u
  pub readied : is_readied ≡ true → IfSome live.staged (λ next. IsReadied live next u)
