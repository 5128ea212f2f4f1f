use Rattle.cdi_staging.proofs.Common.{◌≡◌, ◌++◌, map, site_of, drop}
use Rattle.cdi_staging.specs.Sites.{sight_in}
use Rattle.cdi_staging.proofs.site.sites_of.Given as goal

abbrev pub invariant-loop-call : goal.invariant-loop-call
invariant-loop-call l = l.sites ++ map (site_of l.decls l.beans (sight_in l.sight)) (drop l.call-index l.calls)
    ≡ map (site_of l.decls l.beans (sight_in l.sight)) l.calls
