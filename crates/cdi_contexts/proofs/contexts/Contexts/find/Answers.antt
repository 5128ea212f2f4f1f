use Rattle.std.proofs.Common.{sym, ap, ◌∙◌}
use Rattle.cdi_contexts.proofs.HomeLemmas.{found-dependent}
use Rattle.cdi_contexts.specs.Standing.{found}
use Rattle.cdi_contexts.proofs.contexts.Contexts.find.Goals as goal

pub returns-in-Dependent : goal.returns-in-Dependent
returns-in-Dependent c =
    let live = c.args.self.now.standing.live in
    sym (ap (λ scope. found live scope c.args.bean) c.in-Dependent.is ∙ found-dependent live c.args.bean)
