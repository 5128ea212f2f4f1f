use Rattle.std.proofs.Common.{◌∙◌, sym}
use Rattle.cdi_bodies.proofs.BookLemmas.{body_there, no_promise, promise_there}
use Rattle.cdi_bodies.proofs.book.BookBodies.promise.Goals as goal

pub returns-in_err-position : goal.returns-in_err-position
returns-in_err-position g c = c.from_residual.ensures ∙ sym (no_promise _ c.args.name.now c.in_err-position.ensures.value)

pub returns : goal.returns
returns g c =
    let bodies = c.args.self.now.bodies.items in
    let place = c.in_ok-position.position in
    let body = c.index.result.now in
    sym (promise_there (λ b. b.name) (λ b. b.promise) bodies c.args.name.now place body c.in_ok-position.ensures.value
    (body_there (λ b. b.name) (λ b. b.promise) bodies place body c.in_ok-position.ensures.found c.index.ensures))
