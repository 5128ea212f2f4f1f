use Rattle.cdi_ways.proofs.Common.{◌<◌, length, refl, arith}
use Rattle.std.proofs.Common.{rules}
use Rattle.cdi_ways.proofs.LeavingLemmas.{fewer_left, set_mapped}
use Rattle.cdi_ways.proofs.search.Search.follow.Goals as goal

pub loop-edge-init : goal.loop-edge-init
loop-edge-init c =
    let old = c.args.self.now.left in
    let items = old.items in
    let within : c.args.node < length items = omega (arith, c.if-node-len.false, c.len.ensures, old.ok.0) in
    record {
      steps = search rules;
      left = λ n. set_mapped (λ positions. positions.now) items c.args.node n _ within;
      edges = fewer_left items c.args.node (length c.args.self.now.steps.items) _ c.index-positions.result.now within
          c.index-positions.ensures refl;
    }
