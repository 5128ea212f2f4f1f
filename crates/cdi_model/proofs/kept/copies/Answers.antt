use Rattle.cdi_model.proofs.Common.{◌≡◌, map, arith}
use Rattle.std.proofs.lemmas.Grind.{common_steps}
use Rattle.cdi_model.proofs.ReplacedLemmas.{pair_of, same-changed, same-marked}
use Rattle.cdi_model.proofs.kept.copies.Goals as goal

pub returns-clause-ok : goal.returns-clause-ok
returns-clause-ok c =
    let same : map pair_of c.loop-entry.copy.items ≡ map pair_of c.args.replaced.now.items = grind (arith, common_steps) in
    same-changed c.loop-entry.copy.items c.args.replaced.now.items same

pub returns-clause-marked : goal.returns-clause-marked
returns-clause-marked c =
    let same : map pair_of c.loop-entry.copy.items ≡ map pair_of c.args.replaced.now.items = grind (arith, common_steps) in
    same-marked c.loop-entry.copy.items c.args.replaced.now.items same
