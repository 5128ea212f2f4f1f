use Rattle.cdi_index.proofs.Common.{subst, IsNext}
use Rattle.cdi_index.proofs.KeptAtLemmas.{next-at}
use Rattle.cdi_index.specs.State.{MayBeNext}
use Rattle.cdi_index.proofs.index.Index.next.Goals as goal

pub new-requires : goal.new-requires
new-requires c =
    let shelf = c.self.inside.shelf in
    let next = c.in-Some.next in
    let it : IsNext shelf c.self.inside.postings next =
    subst (MayBeNext shelf c.self.inside.postings) c.in-Some.is c.self.invariant.staged in
    record {
      distinct = it.distinct;
      exact = it.exact;
      sound = it.sound;
      at = next-at shelf next.first next.changes.items next.affected.keys c.self.invariant.shelved it.free it.affected it.once;
      numbered = it.numbered;
      affected = it.affected;
      turned = it.turned;
      beans = it.beans;
    }
