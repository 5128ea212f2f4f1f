-- The laws that stand on a public function.
use Rattle.cdi_staging.proofs.{LookupLemmas.chosen-stands, LookupLemmas.chosen-has-methods, NotifiedLemmas.notified_stand}

pub ruleset of_scenes = (chosen-stands, chosen-has-methods, notified_stand)
