use Rattle.cdi_effective.proofs.Common.{◌≡◌, false, ◌||◌, [], length, get_or, ap, ◌∙◌, has, list_any, replicate, replaced_by}
use Rattle.cdi_effective.proofs.Common.{length-replicate, rules}
use Rattle.cdi_effective.proofs.MarkLemmas.{drop-there, marks-begin, marks-end, marks-go-on, one-dropped}
use Rattle.cdi_effective.proofs.PlaceLemmas.{own-found}
use Rattle.cdi_effective.proofs.chains.Chains.replaced.Goals as goal

pub loop-decl-init : goal.loop-decl-init
loop-decl-init c =
    let ds = c.args.self.now.decls.now in
    let blank : c.in_ok-marks.marks.items ≡ replicate (length ds) false =
    c.in_ok-marks.ensures.items_if_clones_equal (λ y same. search rules) ∙ ap (λ n. replicate n false) c.len.ensures.value in
    record {
      sized = ap length blank ∙ length-replicate (length ds) false;
      left = search rules;
      told = λ class place at. ap (λ l. get_or c.in_ok-marks.marks.items place false || list_any (λ d. has (replaced_by ds d) class) l)
          (search rules) ∙ marks-begin ds c.in_ok-marks.marks.items blank class place at;
    }

pub mark_replaced-requires-clause-there : goal.mark_replaced-requires-clause-there
mark_replaced-requires-clause-there c =
    let step = c.in-Some.ensures.steps in
    (drop-there c.args.self.now.decls.now c.loop-decl.place c.in-Some.decl.now c.next.new.self (c.loop-decl.invariant.left ∙ step)).0

pub mark_replaced-requires-clause-found : goal.mark_replaced-requires-clause-found
mark_replaced-requires-clause-found c =
    let step = c.in-Some.ensures.steps in
    own-found c.args.self.now.decls.now c.loop-decl.place c.in-Some.decl.now c.iter-decl-items.ensures.distinct
    (drop-there c.args.self.now.decls.now c.loop-decl.place c.in-Some.decl.now c.next.new.self (c.loop-decl.invariant.left ∙ step)).0

pub loop-decl-preserved : goal.loop-decl-preserved
loop-decl-preserved c =
    let ds = c.args.self.now.decls.now in
    let step = c.in-Some.ensures.steps in
    record {
      sized = search rules;
      left = one-dropped ds c.loop-decl.place c.in-Some.decl.now c.next.new.self (c.loop-decl.invariant.left ∙ step);
      told = marks-go-on ds c.in-Some.decl.now c.loop-decl.decl-iterator c.next.new.self c.loop-decl.marks.items _ step
          c.in_ok-mark_replaced.ensures.marked c.loop-decl.invariant.told;
    }

pub returns : goal.returns
returns c =
    let none : c.loop-decl.decl-iterator ≡ [] = search rules in
    record {
      sized = c.loop-decl.invariant.sized;
      told = marks-end c.args.self.now.decls.now c.loop-decl.decl-iterator c.loop-decl.marks.items none c.loop-decl.invariant.told;
    }
