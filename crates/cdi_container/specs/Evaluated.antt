-- What a container is once the injection points that it lent are let go.
use Rattle.std.specs.Prelude.{◌≡◌, Result, OnOk, OnErr}
use Rattle.std.specs.Borrow.{Fml, MutBor, RattleType}
use Rattle.std.specs.Io.BufRead.{Rests}
use Rattle.std.specs.declared.alloc.AllocError.{AllocError}
use Rattle.cdi_bodies.specs.declared.book.Bodies.{Ghosts}
use Rattle.cdi_observe.specs.Wanted.{wanted}
use Rattle.cdi_container.specs.History.{State, AsksSome, asked, untold}
use Rattle.cdi_container.specs.Known.{work_with}
use Rattle.cdi_container.specs.Seen.{EvaluateStep}
use Rattle.cdi_container.specs.contracts.container.Container.{the_row}

-- each wanted key was evaluated, or some before memory ran out
pub record IsEvaluated {X : Type 0} (old : State) (result : Result X AllocError) (new : State) : Type 0 where
  pub ok : OnOk result (new ≡ untold (asked old (wanted old.decls)))
  pub known : OnOk result (new.known ≡ wanted new.decls)
  pub work : OnOk result (new.work ≡ work_with old.known (wanted old.decls) old.work)
  pub err : OnErr result (AsksSome old (wanted old.decls) new)
  pub step : EvaluateStep old result new

-- the container behind a `&mut` ends so
abbrev pub EndsEvaluated : (B : RattleType) (bodies : Ghosts B.Denot) {X : Type 0} → MutBor State → Result X AllocError → Fml
EndsEvaluated B bodies container result = Rests (the_row B bodies) container (IsEvaluated container.now result)
