use Rattle.std.proofs.Common.{◌∙◌, sym}
use Rattle.cdi_bodies.proofs.BookLemmas.{no_promise, promise_in_place}
use Rattle.cdi_bodies.proofs.promise_book.PromiseBookBodies.promise.Goals as goal

pub returns-in_err-position : goal.returns-in_err-position
returns-in_err-position c = c.from_residual.ensures ∙ sym (no_promise _ c.args.name.now c.in_err-position.ensures.value)

pub returns : goal.returns
returns c =
    c.promise_at.ensures
    ∙ promise_in_place c.args.self.now.promises.entries c.args.name.now c.in_ok-position.position c.in_ok-position.ensures.value
