use Rattle.cdi_postings.proofs.ListingLemmas.{unlists-seen}
use Rattle.cdi_postings.proofs.postings.Postings.unlist.Goals as goal

pub returns : goal.returns
returns c = unlists-seen c.self.inside.map c.unlist_in.new.map c.args.self.now c.self.view_is c.args.word c.args.slot c.unlist_in.ensures
