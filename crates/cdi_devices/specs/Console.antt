-- A console: its reader and its writer.
use Rattle.std.specs.Prelude.{◌≡◌, []}
use Rattle.std.specs.Borrow.{Lends, MutBor, Fml, RattleType}
use mir.Syntax.{named}
use Rattle.cdi_devices.specs.declared.counted.Counted.{Counted}
use Rattle.cdi_devices.specs.contracts.counted.Counted as counted
use Rattle.cdi_devices.specs.declared.console.Console.{Console}
use Rattle.cdi_devices.specs.contracts.console.Console as console

module _ {R W : Type 0} where
  abbrev pub reader_of : Console R W → Counted R
  reader_of c = c.reader.now

  abbrev pub writer_of : Console R W → Counted W
  writer_of c = c.writer.now

  -- a console of these streams
  abbrev pub Holds : Console R W → MutBor (Counted R) → MutBor (Counted W) → Type 0
  Holds c reader writer = (c.reader.ghost_name ≡ reader.ghost_name) × (c.writer.ghost_name ≡ writer.ghost_name)

  -- the same streams
  abbrev pub KeepsStreams : Console R W → Console R W → Type 0
  KeepsStreams old new = Holds new old.reader old.writer

  abbrev pub with_writer : Console R W → Counted W → Console R W
  with_writer c w = record c { writer = record c.writer { now = w } }

module _ (R W : RattleType) where
  -- the console has the writer that is left
  abbrev pub LendsWriter : MutBor (Console R.Denot W.Denot) → MutBor (Counted W.Denot) → Fml
  LendsWriter c w = Lends (console.the_row (record { mir = named 1; lft = [] }) R W) (counted.the_row W) c w (with_writer c.now)
