-- The table of the program's bodies: what each is called, what it promises and what it does (profile).
use Rattle.std.specs.Prelude.{ℕ, Bool, List, [], ◌∷◌, codes, map}
use Rattle.std.specs.Str.{bytes_eq}
use Rattle.cdi_bodies.specs.Book.{Promised}
use Rattle.cdi_bodies.specs.Flags as flags
use Rattle.cdi_bodies.specs.declared.act.Act.{Act}
use Rattle.cdi_bodies.specs.declared.act.Frame.{Frame}
use Rattle.cdi_bodies.specs.declared.promise.Promise.{Promise}
use Rattle.cdi_stock.specs.Acts as acts
use Rattle.cdi_stock.specs.declared.stock.Stock.{Stock}
use Rattle.cdi_stock.specs.declared.stock.Stock.TheVariants.{Unit, Zero, Echo, Count, Relay, Notify, Pass, Double}
use Rattle.cdi_stock.specs.declared.stock.Stock.TheVariants.{Guard, Retry, Swallow, Short, Boom, Flaky, Spin}

-- the bodies, in the order of the table
unfoldable pub table : List Stock
table = Unit ∷ Zero ∷ Echo ∷ Count ∷ Relay ∷ Notify ∷ Pass ∷ Double ∷ Guard ∷ Retry ∷ Swallow ∷ Short ∷ Boom ∷ Flaky ∷ Spin ∷ []

abbrev pub name_of : Stock → List ℕ
name_of Unit = codes "unit"
name_of Zero = codes "zero"
name_of Echo = codes "echo"
name_of Count = codes "count"
name_of Relay = codes "relay"
name_of Notify = codes "notify"
name_of Pass = codes "pass"
name_of Double = codes "double"
name_of Guard = codes "guard"
name_of Retry = codes "retry"
name_of Swallow = codes "swallow"
name_of Short = codes "short"
name_of Boom = codes "boom"
name_of Flaky = codes "flaky"
name_of Spin = codes "spin"

-- a promise of these flags
abbrev pub of_flags : List ℕ → Promise
of_flags each = record { 0 = flags.set_of_flags each }

abbrev pub promise_of : Stock → Promise
promise_of Unit = of_flags []
promise_of Zero = of_flags []
promise_of Echo = of_flags []
promise_of Count = of_flags (flags.load ∷ flags.store ∷ [])
promise_of Relay = of_flags (flags.call ∷ flags.fail ∷ [])
promise_of Notify = of_flags (flags.fire ∷ flags.fail ∷ [])
promise_of Pass = of_flags (flags.proceed ∷ flags.fail ∷ [])
promise_of Double = of_flags (flags.proceed ∷ flags.fail ∷ [])
promise_of Guard = of_flags (flags.proceed ∷ flags.fail ∷ [])
promise_of Retry = of_flags (flags.proceed ∷ flags.fail ∷ [])
promise_of Swallow = of_flags (flags.proceed ∷ [])
promise_of Short = of_flags []
promise_of Boom = of_flags (flags.fail ∷ [])
promise_of Flaky = of_flags (flags.load ∷ flags.store ∷ flags.fail ∷ [])
promise_of Spin = of_flags (flags.load ∷ [])

abbrev pub has_name : List ℕ → Stock → Bool
has_name name body = bytes_eq name (name_of body)

-- the name and the promise of a body
abbrev pub promised : Stock → Promised
promised stock = (name_of stock, promise_of stock)

-- those of the table, in its order
abbrev pub stored : List Promised
stored = map promised table

-- the next act on a frame
abbrev pub act_of : Stock → Frame → Act
act_of Unit frame = acts.unit_act frame
act_of Zero frame = acts.zero_act frame
act_of Echo frame = acts.echo_act frame
act_of Count frame = acts.count_act frame
act_of Relay frame = acts.relay_act frame
act_of Notify frame = acts.notify_act frame
act_of Pass frame = acts.pass_act frame
act_of Double frame = acts.double_act frame
act_of Guard frame = acts.guard_act frame
act_of Retry frame = acts.retry_act frame
act_of Swallow frame = acts.swallow_act frame
act_of Short frame = acts.short_act frame
act_of Boom frame = acts.boom_act frame
act_of Flaky frame = acts.flaky_act frame
act_of Spin frame = acts.spin_act frame
