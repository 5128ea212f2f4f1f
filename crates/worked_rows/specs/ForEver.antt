-- What the bodies promise that make one act for ever: that act alone.
use Rattle.cdi_bodies.specs.Flags as flags
use Rattle.cdi_bodies.specs.declared.promise.Promise.{Promise}
use Rattle.worked_rows.specs.declared.for_ever.ForEver.{ForEver}
use Rattle.worked_rows.specs.declared.for_ever.ForEver.TheVariants.{Stores, Calls, Fires, Proceeds}

abbrev pub promise_of : ForEver → Promise
promise_of Stores = record { 0 = flags.store }
promise_of Calls = record { 0 = flags.call }
promise_of Fires = record { 0 = flags.fire }
promise_of Proceeds = record { 0 = flags.proceed }
