use Rattle.std.proofs.Common.{nat_eq, true, cond, Some, sym, ap, ◌∙◌}
use Rattle.std.specs.{Option.IsSome, Option.is_some, Option.option_copied_mut, List.list_any}
use Rattle.indexmap.specs.IndexMap.{get}
use Rattle.base_options.proofs.Results.{OnErr-from}
use Rattle.cdi_postings.proofs.ListingLemmas.{holds_one, more-listed, same-listed}
use Rattle.cdi_postings.specs.Words.{same_word}
use Rattle.cdi_postings.proofs.postings.list_in.Goals as goal

pub returns-in_err-insert-clause-err : goal.returns-in_err-insert-clause-err
returns-in_err-insert-clause-err c =
    let found = sym c.get_mut.ensures.value ∙ ap option_copied_mut c.in-Some.is in
    let some : IsSome (get same_word c.args.map.now c.args.word) = ap is_some found in
    let written = c.get_mut.follows.holds c.insert.new.self in
    OnErr-from c.from_residual.result
    (same-listed c.args.word c.args.slot (get same_word c.args.map.now) (get same_word (c.get_mut.follows.lender c.insert.new.self))
    c.in-Some.slots.now c.insert.new.self found c.in_err-insert.ensures.err (λ q. (written.3 some).0 q))

pub returns-in-Some-clause-ok : goal.returns-in-Some-clause-ok
returns-in-Some-clause-ok c =
    let found = sym c.get_mut.ensures.value ∙ ap option_copied_mut c.in-Some.is in
    let some : IsSome (get same_word c.args.map.now c.args.word) = ap is_some found in
    let written = c.get_mut.follows.holds c.insert.new.self in
    more-listed c.args.word c.args.slot (get same_word c.args.map.now) (get same_word (c.get_mut.follows.lender c.insert.new.self))
    c.insert.new.self
    (λ k. c.in_ok-insert.ensures.updates.0 k ∙ ap (λ o. cond (nat_eq c.args.slot k) true (holds_one o k)) (sym found))
    (λ q. (written.3 some).0 q)

pub returns-clause-ok : goal.returns-clause-ok
returns-clause-ok c =
    let before = c.get_mut.follows.lender-at-none in
    let same = c.get_mut.follows.holds-at-none in
    let none = sym c.get_mut.ensures.value ∙ ap option_copied_mut c.in_default.is in
    more-listed c.args.word c.args.slot (get same_word c.args.map.now) (get same_word c.insert-3.new.self) c.insert-2.new.self
    (λ k. c.in_ok-insert-2.ensures.updates.0 k
    ∙ ap (λ b. cond (nat_eq c.args.slot k) true b)
    (ap (list_any (nat_eq k)) c.new-slots.ensures.empty ∙ sym (ap (λ o. holds_one o k) none)))
    (λ q. c.in_ok-insert-3.ensures.updates.0 q
    ∙ ap (λ m. cond (same_word c.args.word q) (Some c.insert-2.new.self) (get same_word m q)) same)
