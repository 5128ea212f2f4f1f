use Rattle.std.proofs.Common.{◌∙◌}
use Rattle.cdi_bodies.proofs.BookLemmas.{position_named}
use Rattle.cdi_bodies.proofs.book.BookBodies.position.Goals as goal

pub returns-clause-value : goal.returns-clause-value
returns-clause-value g c =
    let book = c.args.self.now in
    c.get_index_of.ensures.index
    ∙ position_named (λ body. body.name) (λ body. body.promise) book.bodies.items book.names.keys c.args.name.now book.named
