use Rattle.cdi_live.proofs.Common.{◌≡◌, sym, ap, ◌∙◌, inl, ChoiceKey, subst, beans, knows_in, Memos, after_key, with_known, after_known}
use Rattle.cdi_live.proofs.Common.{kept_in, State, chosen}
use Rattle.cdi_observe.specs.Keys.{choice_key}
use Rattle.cdi_live.proofs.LiveLemmas.{chosen-by-required, kept-after, kept-with-choice, keeping, known-with-choice}
use Rattle.cdi_live.proofs.live.Live.choose.Goals as goal

pub returns-in-Some-clause-kept : goal.returns-in-Some-clause-kept
returns-in-Some-clause-kept c =
    sym (after_known c.args.self.now.decls (choice_key c.args.bean_type c.args.quals.now) (kept_in c.args.self.now)
    (sym c.in-Some.ensures.known))

pub invariant_of-self-2 : goal.invariant_of-self-2
invariant_of-self-2 c = record {
  default = inl c.in_ok-make_default.ensures.ok;
  kept = kept-with-choice c.self.inside.index.decls c.self.inside.memos c.evaluate.new.choices c.args.bean_type c.required_of.result.now
      c.in_ok-choice.choice c.in_ok-choice.ensures.kept c.in_ok-choice.ensures.choice c.self.invariant.kept;
  shared = c.self.invariant.shared;
  staged = tt;
}

pub returns-clause-choice : goal.returns-clause-choice
returns-clause-choice c =
    let ds = c.self.inside.index.decls in
    let t = c.args.bean_type in
    c.in_ok-choice.ensures.choice ∙ ap (chosen ds (beans ds) t) c.required_of.ensures ∙ chosen-by-required ds t c.args.quals.now
    ∙ ap (λ (s : State). chosen s.decls (beans s.decls) t c.args.quals.now) c.self.view_is

pub returns-clause-kept : goal.returns-clause-kept
returns-clause-kept c =
    let ds = c.self.inside.index.decls in
    let memos = c.self.inside.memos in
    let t = c.args.bean_type in
    let us = c.args.quals.now in
    let new : Memos = record { choices = c.evaluate.new.choices; chains = memos.chains; events = memos.events } in
    subst (λ (s : State). keeping (knows_in new) c.evaluate.new.work ≡ after_key s.decls (choice_key t us) (kept_in s)) c.self.view_is
    (kept-after ds (knows_in memos) (knows_in new) c.self.inside.work c.evaluate.new.work (choice_key t us)
    (known-with-choice ds memos c.evaluate.new.choices t c.required_of.result.now c.in_ok-choice.choice c.in_ok-choice.ensures.kept
    ∙ ap (λ vs. with_known ds (knows_in memos) (ChoiceKey t vs)) c.required_of.ensures)
    (c.in_default.ensures.known ∙ ap (λ (s : State). knows_in s.memos (choice_key t us)) (sym c.self.view_is))
    c.in_ok-choice.ensures.work)
