use Rattle.std.proofs.Common.{◌++◌, ap, sym, ◌∙◌}
use Rattle.cdi_devices.proofs.Known.{written_more, still_same}
use Rattle.cdi_devices.specs.Counted.{has_failed, inner_of}
use Rattle.cdi_devices.proofs.devices.write_out.Goals as goal

pub loop-rest-preserved : goal.loop-rest-preserved
loop-rest-preserved g c =
    let now = c.loop-rest.invariant.0 in
    let more = written_more (g.W.Write.contents (inner_of c.args.writer.now)) (g.W.Write.contents (inner_of c.loop-rest.writer))
    (g.W.Write.contents (inner_of c.write.new.self))
    c.args.bytes.now c.loop-rest.rest.now now.0 c.in-Ok.n now.1 now.2 c.in-Ok.ensures.bytes in (
      (more.0, more.1 ∙ ap (λ l. more.0 ++ l) (sym c.split_at.ensures.back), more.2),
      still_same _ (has_failed c.loop-rest.writer) c.in-Ok.n
          c.in-Ok.ensures.noted.1 c.in-Ok.n-test.1 ∙ c.loop-rest.invariant.1,
    )
