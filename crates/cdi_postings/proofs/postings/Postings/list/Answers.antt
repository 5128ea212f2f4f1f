use Rattle.std.proofs.lemmas.Result.{on_ok_weaker, on_err_weaker}
use Rattle.cdi_postings.proofs.ListingLemmas.{lists-seen, same-seen}
use Rattle.cdi_postings.proofs.postings.Postings.list.Goals as goal

pub returns-clause-ok : goal.returns-clause-ok
returns-clause-ok c = on_ok_weaker c.list_in.result
    (lists-seen c.self.inside.map c.list_in.new.map c.args.self.now c.self.view_is c.args.word c.args.slot) c.list_in.ensures.ok

pub returns-clause-err : goal.returns-clause-err
returns-clause-err c = on_err_weaker c.list_in.result
    (same-seen c.self.inside.map c.list_in.new.map c.args.self.now c.self.view_is) c.list_in.ensures.err
