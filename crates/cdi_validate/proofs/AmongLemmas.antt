-- What is found among some declarations is all that there is.
use Rattle.cdi_validate.proofs.Common.{◌≡◌, List, ◌++◌, append_assoc, flat_map, Promised, Decl, faults_together, looks_at_all, faults}
use Rattle.cdi_validate.proofs.Common.{faults_of, arith}

-- the faults of some declarations, where no other has any, and those that all have together
pub told-all : (ds es : List Decl) (book : List Promised) → flat_map (faults_of ds book) es ≡ flat_map (faults_of ds book) ds
    → flat_map (faults_of ds book) es ++ faults_together ds looks_at_all ≡ faults ds book
unfolding faults
told-all ds es book same = grind (arith, append_assoc)
