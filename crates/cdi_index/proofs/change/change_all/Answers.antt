use Rattle.cdi_index.proofs.Common.{◌≡◌, ap, ◌∙◌, ◌+◌, length, change_of, arith, length-map, take}
use Rattle.cdi_index.specs.Numbers.{number_by}
use Rattle.cdi_index.proofs.LoopLemmas.{changes-next, keeps-then, keys-next}
use Rattle.cdi_index.proofs.change.change_all.Goals as goal

pub loop-key-preserved : goal.loop-key-preserved
loop-key-preserved c =
    let done = take c.loop-key.key-index c.args.keys.now in
    let many : c.len.result ≡ length done = omega (
      arith,
      c.len.ensures,
      c.loop-key.changes.ok.0,
      ap length c.loop-key.invariant.changes ∙ length-map done (change_of c.args.types.now.decls.now (number_by c.args.numbers)),
    ) in
    record {
      kept = keeps-then c.args.postings.now c.loop-key.postings c.list_words.new.postings c.loop-key.invariant.kept
          c.list_words.ensures.kept;
      changes = changes-next c.args.types.now.decls.now (number_by c.args.numbers) c.args.keys.now c.loop-key.key-index c.key-item.result
          c.of.result c.in_ok-made.made c.loop-key.changes.items c.push.new.self.items c.loop-key-test.true c.key-item.is
          c.in_ok-made.ensures c.of.ensures c.in_ok-push.ensures.items c.loop-key.invariant.changes;
      listed = keys-next c.args.types.now.decls.now c.args.keys.now c.loop-key.key-index c.key-item.result c.in_ok-made.made
          c.args.numbers.shelf.now.given
          (c.args.numbers.shelf.now.given + c.len.result) c.loop-key.postings c.list_words.new.postings c.loop-key-test.true c.key-item.is
          c.in_ok-made.ensures (ap (λ n. c.args.numbers.shelf.now.given + n) many) c.list_words.ensures.kept
          c.in_ok-list_words.ensures.listed c.loop-key.invariant.listed;
    }
