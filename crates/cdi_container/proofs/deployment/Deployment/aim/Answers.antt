use Rattle.cdi_container.proofs.Common.{sym, ap, ◌∙◌, choice_key, wanted, are_known, keys_of_use, Deployed}
use Rattle.cdi_container.proofs.AskedLemmas.{ends_without_memory, own_ends, some-all, use-apart, use-faulty, use-own, use-some, use-unknown}
use Rattle.cdi_container.proofs.AskedLemmas.{wanted-apart}
use Rattle.cdi_container.proofs.deployment.Deployment.aim.Goals as goal

pub returns-in_err-count-clause-asked : goal.returns-in_err-count-clause-asked
returns-in_err-count-clause-asked g c =
    let d = c.args.self.now in
    ends_without_memory c.from_residual.result (keys_of_use d.decls d.book c.args.bean_type c.args.quals.now) d c.wire.new.self
    c.from_residual.ensures.1 (use-some d c.args.bean_type c.args.quals.now c.wire.new.self c.in_err-count.ensures.err)

pub returns-then-count-ne0-clause-asked : goal.returns-then-count-ne0-clause-asked
returns-then-count-ne0-clause-asked g c =
    use-faulty c.args.self.now c.args.bean_type c.args.quals.now c.wire.new.self c.in_ok-count.count c.in_ok-count.ensures.count
    c.if-count-ne0.true c.in_ok-count.ensures.asked

pub returns-then-not-are_known-clause-asked : goal.returns-then-not-are_known-clause-asked
returns-then-not-are_known-clause-asked g c =
    use-unknown c.args.self.now c.args.bean_type c.args.quals.now c.wire.new.self
    (sym (c.are_known.ensures ∙ ap (λ ds. are_known ds c.args.bean_type c.args.quals.now)
    (c.decls.ensures.value ∙ ap (λ (d : Deployed). d.decls) c.self.view_is ∙ c.wire.ensures.decls)) ∙ c.if-not-are_known.true)
    c.in_ok-count.ensures.asked

pub returns-clause-asked : goal.returns-clause-asked
returns-clause-asked g c =
    let d = c.args.self.now in
    let keys = keys_of_use d.decls d.book c.args.bean_type c.args.quals.now in
    own_ends c.aim_wired.result (choice_key c.args.bean_type c.args.quals.now) keys d c.wire.new.self c.aim_wired.new.self
    (use-some d c.args.bean_type c.args.quals.now c.wire.new.self
    (some-all (wanted d.decls) d c.wire.new.self (wanted-apart d.decls) c.in_ok-count.ensures.asked))
    (λ asked. use-own d c.args.bean_type c.args.quals.now c.wire.new.self c.aim_wired.new.self c.wire.ensures.order
    (sym c.in_ok-count.ensures.count ∙ c.if-count-ne0.false)
    (sym (c.are_known.ensures ∙ ap (λ ds. are_known ds c.args.bean_type c.args.quals.now)
    (c.decls.ensures.value ∙ ap (λ (x : Deployed). x.decls) c.self.view_is ∙ c.wire.ensures.decls)) ∙ c.if-not-are_known.false)
    c.in_ok-count.ensures.asked asked)
    (use-apart d c.args.bean_type c.args.quals.now) c.aim_wired.ensures.asked
