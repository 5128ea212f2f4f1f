use Rattle.cdi_live.proofs.Common.{◌≡◌, true, sym, ap, ◌∙◌, is_wanted, subst, ChainKey, knows_in, Memos, after_key, after_known, kept_in}
use Rattle.cdi_live.proofs.Common.{State}
use Rattle.cdi_live.proofs.LiveLemmas.{kept-after, kept-with-chain, keeping, known-with-one-chain}
use Rattle.cdi_live.proofs.WantedPlaceLemmas.{wanted-place}
use Rattle.cdi_live.proofs.live.Live.chain.Goals as goal

pub returns-in-Some-clause-kept : goal.returns-in-Some-clause-kept
returns-in-Some-clause-kept c =
    sym (after_known c.args.self.now.decls (ChainKey c.args.class c.args.place.now) (kept_in c.args.self.now) (sym c.in-Some.ensures.known))

pub invariant_of-self-2 : goal.invariant_of-self-2
invariant_of-self-2 c =
    let ds = c.self.inside.index.decls in
    let class = c.args.class in
    let place = c.args.place.now in
    let wanted : is_wanted ds (ChainKey class place) ≡ true =
    wanted-place ds c.in_ok-names.ensures.distinct class place ∙ c.in_ok-names.ensures.there in
    record {
      default = c.self.invariant.default;
      kept = kept-with-chain ds c.self.inside.memos c.evaluate_chain.new.chains class place c.in_ok-names.names wanted
          c.in_ok-names.ensures.kept
          c.in_ok-names.ensures.chain c.self.invariant.kept;
      shared = c.self.invariant.shared;
      staged = tt;
    }

pub returns-clause-kept : goal.returns-clause-kept
returns-clause-kept c =
    let ds = c.self.inside.index.decls in
    let memos = c.self.inside.memos in
    let class = c.args.class in
    let place = c.args.place.now in
    let wanted : is_wanted ds (ChainKey class place) ≡ true =
    wanted-place ds c.in_ok-names.ensures.distinct class place ∙ c.in_ok-names.ensures.there in
    let new : Memos = record { choices = memos.choices; chains = c.evaluate_chain.new.chains; events = memos.events } in
    subst (λ (s : State). keeping (knows_in new) c.evaluate_chain.new.work ≡ after_key s.decls (ChainKey class place) (kept_in s))
    c.self.view_is
    (kept-after ds (knows_in memos) (knows_in new) c.self.inside.work c.evaluate_chain.new.work (ChainKey class place)
    (known-with-one-chain ds memos c.evaluate_chain.new.chains class place c.in_ok-names.names wanted c.in_ok-names.ensures.kept)
    (c.in_default.ensures.known ∙ ap (λ (s : State). knows_in s.memos (ChainKey class place)) (sym c.self.view_is))
    c.in_ok-names.ensures.work)
