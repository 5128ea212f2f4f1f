use Rattle.std.proofs.Common.{◌∙◌, ap, sym, is_some}
use Rattle.cdi_bodies.proofs.BookLemmas.{body_there, if_there, no_promise, promise_there}
use Rattle.cdi_bodies.proofs.book.BookBodies.ask.Goals as goal

pub returns-in_err-position-clause-known : goal.returns-in_err-position-clause-known
returns-in_err-position-clause-known g c =
    ap is_some c.from_residual.ensures ∙ sym (ap is_some (no_promise _ c.args.name.now c.in_err-position.ensures.value))

pub returns-clause-known : goal.returns-clause-known
returns-clause-known g c =
    let bodies = c.args.self.now.bodies.items in
    let place = c.in_ok-position.position in
    let body = c.index.result.now in
    sym (ap is_some (promise_there (λ b. b.name) (λ b. b.promise) bodies c.args.name.now place body
    c.in_ok-position.ensures.value (body_there (λ b. b.name) (λ b. b.promise) bodies place body
    c.in_ok-position.ensures.found c.index.ensures)))

pub returns-clause-within : goal.returns-clause-within
returns-clause-within g c =
    let bodies = c.args.self.now.bodies.items in
    let place = c.in_ok-position.position in
    let body = c.index.result.now in
    if_there _ _ body.promise (promise_there (λ b. b.name) (λ b. b.promise) bodies c.args.name.now place body
    c.in_ok-position.ensures.value (body_there (λ b. b.name) (λ b. b.promise) bodies place body
    c.in_ok-position.ensures.found c.index.ensures)) c.ask.ensures
