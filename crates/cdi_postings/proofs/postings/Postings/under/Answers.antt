use Rattle.std.proofs.Common.{sym}
use Rattle.cdi_postings.proofs.ListingLemmas.{under-found, under-absent}
use Rattle.cdi_postings.proofs.postings.Postings.under.Goals as goal

pub returns-in-Some : goal.returns-in-Some
returns-in-Some c = under-found c.self.inside.map c.args.self.now c.args.word c.in-Some.slots.now _ c.self.view_is
    (sym c.in-Some.ensures.value) c.as_slice.ensures.keys

pub returns-in-None : goal.returns-in-None
returns-in-None c = under-absent c.self.inside.map c.args.self.now c.args.word c.self.view_is (sym c.in-None.ensures.value)
