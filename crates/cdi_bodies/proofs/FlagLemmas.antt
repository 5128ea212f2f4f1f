-- A promise has no flag but those that are allowed exactly where these have all of its bits.
use Rattle.std.proofs.Common.{◌≡◌, ◌∙◌, ℕ, ap, sym, bit_and}
use Rattle.std.specs.Int.Bits.{and_self}
use Rattle.std.proofs.lemmas.Nat.{and_assoc}
use Rattle.cdi_bodies.specs.declared.act.Act.TheVariants.{Load, Store, Call, Fire, Proceed, Return, Fail}
use Rattle.cdi_bodies.specs.{Within.Has, Within.IsAllowed, Within.CoversNoMore, declared.promise.Promise.Promise}

-- what has all bits has each flag
pub keeps_each : (promise : Promise) (allowed : ℕ) → bit_and allowed promise.0 ≡ promise.0 → (flag : ℕ)
    → Has promise flag
    → bit_and allowed flag ≡ flag
keeps_each promise allowed all flag has =
    ap (bit_and allowed) (sym has) ∙ sym (and_assoc flag allowed promise.0) ∙ ap (λ bits. bit_and bits flag) all ∙ has

-- and so has a promise that has all bits
pub has_each : (promise allowed : Promise) → bit_and allowed.0 promise.0 ≡ promise.0 → IsAllowed promise allowed
has_each promise allowed all = keeps_each promise allowed.0 all

-- and who has each flag has all bits
pub has_all : (promise allowed : Promise) → IsAllowed promise allowed → bit_and allowed.0 promise.0 ≡ promise.0
has_all promise allowed each = each promise.0 (and_self promise.0)

-- who has each flag covers each act
pub covers_each : (promise allowed : Promise) → IsAllowed promise allowed → CoversNoMore promise allowed
covers_each promise allowed each calls fires Load covers = each _ covers
covers_each promise allowed each calls fires (Store _) covers = each _ covers
covers_each promise allowed each calls fires (Call _ _) covers = (each _ covers.0, covers.1)
covers_each promise allowed each calls fires (Fire _ _) covers = (each _ covers.0, covers.1)
covers_each promise allowed each calls fires (Proceed _) covers = each _ covers
covers_each promise allowed each calls fires (Return _) covers = covers
covers_each promise allowed each calls fires (Fail _) covers = each _ covers
