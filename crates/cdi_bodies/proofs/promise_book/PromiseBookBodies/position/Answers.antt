use Rattle.std.proofs.Common.{◌∙◌}
use Rattle.cdi_bodies.proofs.BookLemmas.{position_in}
use Rattle.cdi_bodies.proofs.promise_book.PromiseBookBodies.position.Goals as goal

pub returns-clause-value : goal.returns-clause-value
returns-clause-value c = c.get_index_of.ensures.index ∙ position_in c.args.self.now.promises.entries c.args.name.now
