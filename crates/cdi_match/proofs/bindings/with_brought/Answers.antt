use Rattle.cdi_match.proofs.Common.{◌≡◌, length, ap, arith, uses_in}
use Rattle.std.proofs.lemmas.List.{nil_from_length}
use Rattle.cdi_match.proofs.BindingLemmas.{brought_are_these, none_brought}
use Rattle.cdi_match.proofs.bindings.with_brought.Goals as goal

pub returns-then-is_empty-clause-value : goal.returns-then-is_empty-clause-value
returns-then-is_empty-clause-value c =
    let none : length c.args.uses.items ≡ 0 = grind arith in
    none_brought c.args.decls.now (uses_in c.args.uses.items) (ap uses_in (nil_from_length c.args.uses.items none))

pub returns-then-is_empty-clause-meaning : goal.returns-then-is_empty-clause-meaning
returns-then-is_empty-clause-meaning c = brought_are_these

pub returns-in_err-name-items-clause-meaning : goal.returns-in_err-name-items-clause-meaning
returns-in_err-name-items-clause-meaning c = brought_are_these

pub returns-in_err-push_uses-clause-meaning : goal.returns-in_err-push_uses-clause-meaning
returns-in_err-push_uses-clause-meaning c = brought_are_these

pub returns-clause-meaning : goal.returns-clause-meaning
returns-clause-meaning c = brought_are_these
