use Rattle.std.proofs.Common.{◌≡◌, refl, length}
use Rattle.std.specs.Vec.Iter.{into_iter_items, into_iter_len}
use Rattle.std.proofs.lemmas.Iterator.{items_from_collect, Adapters.YieldsList-from_vec}
use Rattle.container_script.proofs.words_of.Goals as goal

pub returns : goal.returns
returns c = items_from_collect c.collect.result c.collect.ensures.ran
    (YieldsList-from_vec (into_iter_items c.args.arguments) refl
    (let count : into_iter_len c.args.arguments ≡ length (into_iter_items c.args.arguments) = c.args.arguments.rest.ok.0 in count))
