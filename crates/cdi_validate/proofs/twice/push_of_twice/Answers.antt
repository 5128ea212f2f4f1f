use Rattle.cdi_validate.proofs.Common.{◌≡◌, ◌++◌, ap, ◌∙◌, specialized_twice, length, map, arith, eqb-true, in_line_order, faults_between}
use Rattle.cdi_validate.proofs.Common.{values}
use Rattle.cdi_validate.proofs.{ChainlessLemmas.faultless_twice, LinkLemmas.kept-faults, PushLemmas.none-pushed}
use Rattle.cdi_validate.proofs.twice.push_of_twice.Goals as goal

pub returns-clause-faults : goal.returns-clause-faults
returns-clause-faults g c =
    let ds = g.V.View.list c.args.view.now in
    let chains = c.in_ok-chains.chains.items in
    let old = c.args.faults.now.items in
    let all : values c.in_ok-lines.lines ≡ specialized_twice ds = ap (map (λ entry. entry.1)) c.in_ok-lines.ensures
    ∙ ap (λ ks. in_line_order (faults_between ks)) c.deref.ensures.value
    ∙ kept-faults ds chains c.in_ok-chains.ensures.distinct c.in_ok-chains.ensures.chains in
    c.in_ok-push_all.ensures ∙ ap (λ fs. old ++ fs) all

pub returns-clause-apart : goal.returns-clause-apart
returns-clause-apart g c = λ apart.
    let ds = g.V.View.list c.args.view.now in
    let old = c.args.faults.now in
    let new = c.push_all.new.faults in
    let same = eqb-true c.len.result c.len-before.result apart in
    let as_long : length new.items ≡ length old.items =
    omega (arith, same, c.len.ensures, c.len-before.ensures, old.ok.0, new.ok.0) in
    faultless_twice ds c.in_ok-chains.ensures.distinct
    (none-pushed old.items (specialized_twice ds) new.items (returns-clause-faults g c) as_long)
