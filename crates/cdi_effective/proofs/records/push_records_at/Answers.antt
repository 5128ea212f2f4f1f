use Rattle.cdi_effective.proofs.Common.{ap, ◌∙◌, find_bean}
use Rattle.cdi_effective.proofs.PlaceLemmas.{place-found}
use Rattle.cdi_effective.proofs.records.push_records_at.Goals as goal

pub gained_by-requires-clause-found : goal.gained_by-requires-clause-found
gained_by-requires-clause-found c =
    ap (λ ds. find_bean c.args.bean.now.name ds) c.requires.chains
    ∙ place-found c.args.decls.now c.args.bean.now c.args.place c.requires.place
