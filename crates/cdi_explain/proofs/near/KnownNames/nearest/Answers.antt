use Rattle.cdi_explain.proofs.NearLemmas.{nearest_is_near}
use Rattle.cdi_explain.proofs.near.KnownNames.nearest.Goals as goal

pub returns-in-Some-clause-near : goal.returns-in-Some-clause-near
returns-in-Some-clause-near c = nearest_is_near

pub returns-clause-near : goal.returns-clause-near
returns-clause-near c = nearest_is_near

pub returns-in_err-wanted-clause-near : goal.returns-in_err-wanted-clause-near
returns-in_err-wanted-clause-near c = nearest_is_near
