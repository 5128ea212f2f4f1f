use Rattle.std.proofs.Common.{◌∙◌}
use Rattle.cdi_contexts.proofs.contexts.Contexts.last_dependent.Goals as goal

pub returns-clause-value : goal.returns-clause-value
returns-clause-value c = c.last_of_among.ensures ∙ c.younger.ensures.last

pub returns-clause-younger : goal.returns-clause-younger
returns-clause-younger c = rw (c.last_of_among.ensures, c.younger.ensures.last) c.younger.ensures.lives
