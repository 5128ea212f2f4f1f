use Rattle.cdi_validate.proofs.Common.{◌≡◌, ap, ◌∙◌, circles, length, arith, eqb-true, nil_from_length, ◌+◌, length-append}
use Rattle.cdi_validate.proofs.CirclelessLemmas.{faultless_circles}
use Rattle.cdi_validate.proofs.circles.push_of_circles.Goals as goal

pub returns-clause-apart : goal.returns-clause-apart
returns-clause-apart g c = λ apart.
    let found = circles (g.V.View.list c.args.view.now) in
    let old = c.args.faults.now in
    let new = c.push_all_circles.new.faults in
    let same : c.len.result ≡ c.len-before.result = eqb-true c.len.result c.len-before.result apart in
    let both : length new.items ≡ length old.items + length found =
    ap length c.in_ok-push_all_circles.ensures.faults ∙ length-append old.items found in
    faultless_circles (g.V.View.list c.args.view.now)
    (nil_from_length found (omega (arith, same, both, c.len.ensures, c.len-before.ensures, new.ok.0, old.ok.0)))
