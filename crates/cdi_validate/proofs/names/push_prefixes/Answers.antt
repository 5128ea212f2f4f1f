use Rattle.cdi_validate.proofs.Common.{◌++◌, sym, ap, ◌∙◌, append_assoc, map, filter, IsStrictlySortedBy, subst, slice_cmp, nat_cmp}
use Rattle.cdi_validate.proofs.Common.{prefix_pairs, goes_on}
use Rattle.cdi_faults.specs.declared.fault.Fault.TheVariants as faults_are
use Rattle.cdi_validate.proofs.names.push_prefixes.Goals as goal

pub taken-preserved : goal.taken-preserved
unfolding IsStrictlySortedBy
taken-preserved c =
    let left = (c.in-Some.ensures.cases).0 in
    let later = c.in-Some.later.now in
    let x = c.in-Some.name.now in
    let behind = map (faults_are.NamePrefix x) (filter (goes_on x) later) in
    record {
      rises = (subst (λ l. IsStrictlySortedBy (slice_cmp nat_cmp) l) left c.taken.invariant.rises).1;
      pairs = ap (λ l. l ++ prefix_pairs later) c.in_ok-push_behind.ensures
          ∙ append_assoc c.taken.faults.items behind (prefix_pairs later)
          ∙ ap (λ l. c.taken.faults.items ++ prefix_pairs l) (sym left)
          ∙ c.taken.invariant.pairs;
    }
