use Rattle.cdi_container.proofs.Common.{subst, Deployed, IfOk, IsEdited}
use Rattle.cdi_container.proofs.Committing.{is_edited}
use Rattle.cdi_container.proofs.deployment.Deployment.draft.Goals as goal

pub returns-clause-edited : goal.returns-clause-edited
returns-clause-edited g c =
    subst (λ (d : Deployed). IfOk c.draft_change.result (IsEdited d.decls)) c.self.view_is
    (is_edited c.self.inside.live.decls c.args.change c.draft_change.result c.draft_change.ensures.ok)
