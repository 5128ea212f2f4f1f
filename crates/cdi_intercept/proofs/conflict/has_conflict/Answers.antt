use Rattle.std.proofs.Common.{ℕ, List, Some, cond, Option, sym, ap, ◌∙◌, rules}
use Rattle.std.specs.BTreeMap.{get}
use Rattle.cdi_model.specs.Bytes.{byte_order}
use Rattle.cdi_match.specs.Bindings.{uses_in}
use Rattle.cdi_match.proofs.Names.{at_name}
use Rattle.cdi_intercept.proofs.ConflictLemmas.{differ-first, differ-more, put-at}
use Rattle.cdi_intercept.specs.Conflicts.{differs, use_at}
use Rattle.cdi_intercept.proofs.conflict.has_conflict.Goals as goal

pub loop-index-init : goal.loop-index-init
loop-index-init c =
    let us = uses_in c.args.uses.now in
    differ-first c.args.decls.now us (λ name. use_at us (get byte_order c.new-latest.result name)) (λ name. search rules)

pub loop-index-preserved : goal.loop-index-preserved
loop-index-preserved c =
    let us = uses_in c.args.uses.now in
    let i = c.loop-index.index in
    let u = c.index-uses-index.result in
    let old : List ℕ → Option ℕ = get byte_order c.loop-index.latest in
    differ-more c.args.decls.now c.args.uses.now i u (λ name. use_at us (old name))
    (λ name. use_at us (get byte_order c.insert.new.self name)) _ c.loop-index-test.true c.index-uses-index.is
    (λ name. ap (use_at us) (c.in_ok-before.ensures.updates.0 name
    ∙ ap (λ t. cond t (Some i) (old name)) (at_name u.now.name name))
    ∙ put-at c.args.uses.now i u _ (old name) c.loop-index-test.true c.index-uses-index.is)
    (ap (λ o. differs c.args.decls.now (use_at us o) u.now) (sym c.in_ok-before.ensures.old)
    ∙ sym c.differs.ensures ∙ c.if-differs.false)
    c.loop-index.invariant
