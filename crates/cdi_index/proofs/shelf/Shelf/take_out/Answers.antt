use Rattle.cdi_index.proofs.Common.{sym, same_key, nat_eq, get}
use Rattle.cdi_index.proofs.ShelfLemmas.{never-free, take-owned, take-owns, take-stored}
use Rattle.cdi_index.proofs.shelf.Shelf.take_out.Goals as goal

pub returns-in_err-kept-clause-shelf : goal.returns-in_err-kept-clause-shelf
returns-in_err-kept-clause-shelf c =
    absurd (never-free (get same_key c.args.self.now.slots)
    (get nat_eq c.args.self.now.kept) c.requires.owns c.args.key.now c.in_ok-slot.slot
    (sym c.in_ok-slot.ensures.value) (sym c.in_err-kept.ensures.value))

pub returns-in_err-kept-clause-stored : goal.returns-in_err-kept-clause-stored
returns-in_err-kept-clause-stored c k =
    absurd (never-free (get same_key c.args.self.now.slots)
    (get nat_eq c.args.self.now.kept) c.requires.owns c.args.key.now c.in_ok-slot.slot
    (sym c.in_ok-slot.ensures.value) (sym c.in_err-kept.ensures.value))

pub returns-clause-shelf : goal.returns-clause-shelf
returns-clause-shelf c =
    let f = get same_key c.args.self.now.slots in
    let g = get nat_eq c.args.self.now.kept in
    record {
      owns = take-owns f (get same_key c.swap_remove.new.self) g (get nat_eq c.swap_remove-2.new.self) c.args.key.now c.in_ok-slot.slot
          c.in_ok-kept.kept c.requires.owns c.requires.owned (sym c.in_ok-slot.ensures.value) (sym c.in_ok-kept.ensures.value)
          c.swap_remove.ensures.updates.0 c.swap_remove-2.ensures.updates.0;
      owned = take-owned f (get same_key c.swap_remove.new.self) g (get nat_eq c.swap_remove-2.new.self) c.args.key.now c.in_ok-slot.slot
          c.in_ok-kept.kept c.requires.owns c.requires.owned (sym c.in_ok-slot.ensures.value) (sym c.in_ok-kept.ensures.value)
          c.swap_remove.ensures.updates.0 c.swap_remove-2.ensures.updates.0;
    }

pub returns-clause-stored : goal.returns-clause-stored
returns-clause-stored c =
    take-stored (get same_key c.args.self.now.slots) (get same_key c.swap_remove.new.self) (get nat_eq c.args.self.now.kept)
    (get nat_eq c.swap_remove-2.new.self) c.args.key.now c.in_ok-slot.slot c.in_ok-kept.kept c.requires.owns c.requires.owned
    (sym c.in_ok-slot.ensures.value) (sym c.in_ok-kept.ensures.value) c.swap_remove.ensures.updates.0 c.swap_remove-2.ensures.updates.0
