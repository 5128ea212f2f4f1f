use Rattle.std.proofs.Common.{inl, rules}
use Rattle.cdi_session.proofs.program.run_file.Goals as goal

pub returns-in-Ok : goal.returns-in-Ok
returns-in-Ok g c = inl (record {
  file = c.new-reader.result;
  file_after = c.run_from.new.reader;
  holds = search rules;
  start = c.new-reader.ensures.bytes;
  settled = c.new-reader.ensures.settled;
  fact = c.run_from.ensures;
})
