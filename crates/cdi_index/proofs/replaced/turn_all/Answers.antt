use Rattle.cdi_index.proofs.Common.{map, refl, sym, ap, ◌∙◌, cond, arith, Turn, keys_turned, turned, records_after, take_all, turn_by}
use Rattle.cdi_index.proofs.ChangeLemmas.{among-turned}
use Rattle.cdi_index.proofs.KeyLemmas.{keys-made}
use Rattle.cdi_index.proofs.TurnLemmas.{turn_to, turned-all}
use Rattle.cdi_index.proofs.replaced.turn_all.Goals as goal

pub returns-clause-records : goal.returns-clause-records
returns-clause-records c records k =
    let after = records_after c.args.shelf.now c.args.postings.now c.args.affected.now.keys c.args.changes.now in
    let all = c.loop-key.invariant
    ∙ ap (map (turn_by c.args.shelf.now c.args.postings.now c.args.affected.now.keys c.args.changes.now))
    (take_all c.loop-key.key-index c.as_slice-key-items.result.now
    (omega (arith, c.loop-key-test.false)) ∙ c.as_slice-key-items.ensures.keys) in
    ap (λ ts. turned ts records k) all ∙ turned-all after c.in_ok-beans.beans.keys records k
    ∙ ap (λ b. cond b (after k) (records k)) (c.in_ok-beans.ensures k)

pub returns-clause-beans : goal.returns-clause-beans
returns-clause-beans c k = sym (among-turned c.in_ok-beans.beans.keys k) ∙ c.in_ok-beans.ensures k

pub returns-clause-keys : goal.returns-clause-keys
returns-clause-keys c =
    let after = records_after c.args.shelf.now c.args.postings.now c.args.affected.now.keys c.args.changes.now in
    let all = c.loop-key.invariant
    ∙ ap (map (turn_by c.args.shelf.now c.args.postings.now c.args.affected.now.keys c.args.changes.now))
    (take_all c.loop-key.key-index c.as_slice-key-items.result.now
    (omega (arith, c.loop-key-test.false)) ∙ c.as_slice-key-items.ensures.keys) in
    ap keys_turned all ∙ keys-made (λ (t : Turn). t.key) (turn_to after) (λ k. refl) c.in_ok-beans.beans.keys
