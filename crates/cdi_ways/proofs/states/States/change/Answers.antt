use Rattle.cdi_ways.proofs.Common.{◌≡◌, ◌<◌, length, Some, ap, slice_get, slice_get_within, arith, get_or_from_slice_get}
use Rattle.cdi_ways.proofs.Common.{nat_tests, common_steps, slice_get_cases}
use Rattle.std.proofs.Common.{set}
use Rattle.std.proofs.lemmas.{List.Sums.sum_by-set}
use Rattle.cdi_ways.specs.Circles.{searches_left}
use Rattle.cdi_ways.proofs.states.States.change.Goals as goal

pub returns : goal.returns
returns c =
    let each = c.args.self.now.each.items in
    let node = c.args.node in
    let from = c.args.from in
    let was : slice_get each node ≡ Some from = c.is.ensures.0 c.if-not-is.false in
    let within : node < length each = slice_get_within each node from was in
    record {
      was = was;
      now = λ n. grind (arith, common_steps, nat_tests, slice_get_cases each n, slice_get_cases (set each node c.args.to) n);
      left = omega (
        arith,
        sum_by-set searches_left each node c.args.to from within,
        ap searches_left (get_or_from_slice_get each node from from was),
      );
    }
