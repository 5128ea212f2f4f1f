use Rattle.cdi_validate.proofs.Common.{◌≡◌, ap, ◌∙◌, cond, Some, None, get, unwrap_or, slice_cmp, nat_cmp, at_name, candidate, nobody}
use Rattle.cdi_validate.proofs.Common.{with_candidate}
use Rattle.cdi_validate.proofs.ClashLemmas.{led-name}
use Rattle.cdi_validate.proofs.names.add.Goals as goal

pub returns-clause-led : goal.returns-clause-led
returns-clause-led c = λ s.
    let bean = c.args.bean.now in
    let name = c.in-Some.name in
    let before = c.args.leaders.now in
    let between = c.remove.new.self in
    let others : c.unwrap_or-others.result ≡ unwrap_or (get (slice_cmp nat_cmp) before name) nobody =
    c.unwrap_or-others.ensures ∙ ap (λ o. unwrap_or o c.new.result) c.remove.ensures.value
    ∙ ap (unwrap_or (get (slice_cmp nat_cmp) before name)) c.new.ensures in
    led-name (get (slice_cmp nat_cmp) before) bean name s c.in_ok-with.field-0 (get (slice_cmp nat_cmp) between s)
    (get (slice_cmp nat_cmp) c.insert.new.self s) c.if-not-bean.false c.in-Some.is
    (c.in_ok-with.ensures ∙ ap (λ led. with_candidate led (candidate bean)) others)
    (c.remove.ensures.updates.0 s ∙ ap (λ b. cond b None (get (slice_cmp nat_cmp) before s)) (at_name name s))
    (c.in_ok-insert.ensures.updates.0 s ∙ ap (λ b. cond b (Some c.in_ok-with.field-0) (get (slice_cmp nat_cmp) between s)) (at_name name s))
