use Rattle.cdi_ways.proofs.CircleLemmas.{circle_found, settles_changed, settles_found}
use Rattle.cdi_ways.proofs.states.States.settle.Goals as goal

pub returns-clause-settled : goal.returns-clause-settled
returns-clause-settled c =
    let back = rw c.requires.turned at c.in_ok-reached.ensures in
    let given = rw c.deref.ensures.value at c.give_back.ensures in
    let found = circle_found c.requires.settled (c.is.ensures.0 c.if-not-is.false) c.in_ok-ahead.ensures back given in
    settles_changed c.change.new.self c.change.result (settles_found c.requires.settled found) found c.change.ensures
