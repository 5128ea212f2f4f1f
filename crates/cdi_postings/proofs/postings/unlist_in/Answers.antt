use Rattle.std.proofs.Common.{nat_eq, false, cond, Some, None, sym, ap, ◌∙◌}
use Rattle.std.specs.Option.{IsSome, is_some, option_copied_mut}
use Rattle.indexmap.specs.IndexMap.{get}
use Rattle.base_options.proofs.Booleans.{cond-twice}
use Rattle.cdi_postings.proofs.ListingLemmas.{holds_one, less-listed, none-left, none-listed}
use Rattle.cdi_postings.specs.{Words.same_word, Listing.is_in}
use Rattle.cdi_postings.proofs.postings.unlist_in.Goals as goal

pub returns-in_default : goal.returns-in_default
returns-in_default c w k =
    let none = sym c.get_mut.ensures.value ∙ ap option_copied_mut c.in_default.is in
    ap (λ m. is_in m w k) c.get_mut.follows.holds-at-none
    ∙ none-listed c.args.word c.args.slot (get same_word c.args.map.now) none w k

pub returns-then-is_empty : goal.returns-then-is_empty
returns-then-is_empty c =
    let found = sym c.get_mut.ensures.value ∙ ap option_copied_mut c.in-Some.is in
    let some : IsSome (get same_word c.args.map.now c.args.word) = ap is_some found in
    let t = c.swap_remove.new.self in
    let written = c.get_mut.follows.holds t in
    less-listed c.args.word c.args.slot (get same_word c.args.map.now) (get same_word c.swap_remove-then-is_empty.new.self) None
    (λ k. none-left c.args.slot t c.in-Some.slots.now (λ q. c.swap_remove.ensures.updates.0 q) (c.is_empty.ensures.0 c.if-is_empty.true) k
    ∙ ap (λ o. cond (nat_eq c.args.slot k) false (holds_one o k)) (sym found))
    (λ q. c.swap_remove-then-is_empty.ensures.updates.0 q
    ∙ ap (λ o. cond (same_word c.args.word q) None o) ((written.3 some).0 q)
    ∙ cond-twice (same_word c.args.word q) None (Some t) (get same_word c.args.map.now q))

pub returns-else-is_empty : goal.returns-else-is_empty
returns-else-is_empty c =
    let found = sym c.get_mut.ensures.value ∙ ap option_copied_mut c.in-Some.is in
    let some : IsSome (get same_word c.args.map.now c.args.word) = ap is_some found in
    let t = c.swap_remove.new.self in
    let written = c.get_mut.follows.holds t in
    less-listed c.args.word c.args.slot (get same_word c.args.map.now) (get same_word (c.get_mut.follows.lender t)) (Some t)
    (λ k. c.swap_remove.ensures.updates.0 k ∙ ap (λ o. cond (nat_eq c.args.slot k) false (holds_one o k)) (sym found))
    (λ q. (written.3 some).0 q)
