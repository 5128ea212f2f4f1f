-- The laws.
use Rattle.cdi_report.proofs.Common.{edited_all}
use Rattle.cdi_subjects.proofs.RestLemmas.{faults_rest_on}
use Rattle.cdi_report.proofs.{ApartLemmas.apart-spared, SparedLemmas.seen-alike, UnconcernedLemmas.unconcerned-apart}
use Rattle.cdi_report.specs.{Apart.ApartAreSpared, Spared.SparedKeepFaults, Unconcerned.UnconcernedAreApart}

pub spared_keep_faults : SparedKeepFaults
spared_keep_faults edits ds told d found tells spared code book =
    faults_rest_on code ds (edited_all ds edits) book d (seen-alike edits ds told tells d found spared)

pub apart_are_spared : ApartAreSpared
apart_are_spared edits ds told d found tells apart = apart-spared edits told ds d found tells apart

pub unconcerned_are_apart : UnconcernedAreApart
unconcerned_are_apart edits ds m d distinct found same tells it = unconcerned-apart edits ds m d distinct found same tells it
