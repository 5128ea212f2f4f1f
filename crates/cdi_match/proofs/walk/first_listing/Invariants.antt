use Rattle.cdi_match.proofs.Common.{◌≡◌, length, listing_among}
use Rattle.cdi_match.proofs.walk.first_listing.Given as goal

abbrev pub invariant-unlisting : goal.invariant-unlisting
invariant-unlisting l = listing_among l.links l.decls l.names ≡ listing_among l.links l.decls l.fn.names

abbrev pub decreases-unlisting : goal.decreases-unlisting
decreases-unlisting l = length l.names
