use Rattle.cdi_match.proofs.SearchLemmas.{circle_means}
use Rattle.cdi_match.specs.declared.followers.Links.TheVariants.{Bindings}
use Rattle.cdi_match.proofs.bindings.brings_itself.Goals as goal

pub returns-clause-meaning : goal.returns-clause-meaning
returns-clause-meaning c = circle_means Bindings c.args.decls.now c.args.name.now _ c.leads_on.ensures
