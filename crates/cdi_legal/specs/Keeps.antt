-- What a run leaves of the instances that were live before it: all that it destroys it has made.
use Rattle.std.specs.Prelude.{◌≡◌, ℕ, ◌≤◌, Option, Some, true}
use Rattle.cdi_contexts.specs.Standing.{numbered}
use Rattle.cdi_contexts.specs.declared.instance.Instance.{Instance}
use Rattle.cdi_legal.specs.Moment.{Moment}

-- it is still this instance, whatever it holds: it has the same bean, number and owner, and is ready where it was
pub record IsStill (i : Instance) (o : Option Instance) : Type 0 where
  pub same : Instance
  pub there : o ≡ Some same
  pub id : same.id ≡ i.id
  pub owner : same.owner ≡ i.owner
  pub ready : i.is_ready ≡ true → same.is_ready ≡ true

-- each live instance with a number up to this one stays live
abbrev pub KeepsUpTo : ℕ → Moment → Moment → Type 0
KeepsUpTo g old new =
    (n : ℕ) (i : Instance) → n ≤ g → numbered old.standing.live n ≡ Some i → IsStill i (numbered new.standing.live n)

-- each instance that was live stays live
abbrev pub Keeps : Moment → Moment → Type 0
Keeps old new = KeepsUpTo old.standing.given old new
