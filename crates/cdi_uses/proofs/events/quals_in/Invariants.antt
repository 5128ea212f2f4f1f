use Rattle.cdi_uses.proofs.Common.{◌≡◌, ◌≤◌, ◌+◌, true, [], length, option_map, list_all, space, is_event_use, pieces, left_of, quals_from}
use Rattle.cdi_model.specs.Quals.{list_limit}
use Rattle.cdi_uses.proofs.events.quals_in.Given as goal

abbrev pub invariant-loop-rest : goal.invariant-loop-rest
invariant-loop-rest l =
    let parts = pieces space (option_map (λ u. u.now) l.rest) in
    record {
      read : quals_from l.quals parts ≡ quals_from [] (pieces space (option_map (λ u. u.now) l.uses));
      uses : list_all is_event_use parts ≡ true;
      room : length l.quals + length parts ≤ list_limit;
    }

abbrev pub decreases-loop-rest : goal.decreases-loop-rest
decreases-loop-rest l = left_of (option_map (λ u. u.now) l.rest)
