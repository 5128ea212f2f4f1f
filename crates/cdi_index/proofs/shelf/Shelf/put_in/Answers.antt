use Rattle.cdi_index.proofs.Common.{same_key, nat_eq, get}
use Rattle.cdi_index.proofs.ShelfLemmas.{on-ok, put-owned, put-owns, put-stored}
use Rattle.cdi_index.proofs.shelf.Shelf.put_in.Goals as goal

pub returns-clause-shelf : goal.returns-clause-shelf
returns-clause-shelf c =
    let f = get same_key c.args.self.now.slots in
    let g = get nat_eq c.args.self.now.kept in
    let put = (on-ok c.insert.result (c.insert.ensures.succeeds c.requires.slots) c.insert.ensures.updates).0 in
    let kept = (on-ok c.insert-2.result (c.insert-2.ensures.succeeds c.requires.kept) c.insert-2.ensures.updates).0 in
    record {
      owns = put-owns f (get same_key c.insert.new.self) g (get nat_eq c.insert-2.new.self) c.args.slot c.args.kept
          c.requires.shelf.owns c.requires.shelf.owned c.requires.absent c.requires.free put kept;
      owned = put-owned f (get same_key c.insert.new.self) g (get nat_eq c.insert-2.new.self) c.args.slot c.args.kept
          c.requires.shelf.owns c.requires.shelf.owned c.requires.absent c.requires.free put kept;
    }

pub returns-clause-stored : goal.returns-clause-stored
returns-clause-stored c =
    put-stored (get same_key c.args.self.now.slots) (get same_key c.insert.new.self) (get nat_eq c.args.self.now.kept)
    (get nat_eq c.insert-2.new.self) c.args.slot c.args.kept c.requires.shelf.owns c.requires.shelf.owned c.requires.absent
    c.requires.free (on-ok c.insert.result (c.insert.ensures.succeeds c.requires.slots) c.insert.ensures.updates).0
    (on-ok c.insert-2.result (c.insert-2.ensures.succeeds c.requires.kept) c.insert-2.ensures.updates).0
