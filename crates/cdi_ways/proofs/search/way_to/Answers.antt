use Rattle.cdi_ways.proofs.Common.{◌+◌, ◌<◌, ℕ, List, reverse, get_or, length, length-append, None, IfSome, ap, sym, subst, ◌∙◌, refl}
use Rattle.cdi_ways.proofs.Common.{arith, option_map, unwrap_or, slice_get-get_or, Step, depth_at, IsAfter, IsAt, LeadsTo, IsWay}
use Rattle.std.proofs.lemmas.List.{length-reverse}
use Rattle.cdi_ways.proofs.{StepLemmas.depth_more, WayLemmas.before_less, WayLemmas.before_within, WayLemmas.way_back}
use Rattle.cdi_ways.proofs.search.way_to.Goals as goal

-- the step that is read at a place
abbrev step_at : List Step → ℕ → Step
step_at steps i = get_or steps i (record { edge = 0; before = None; depth = 0 })

is_there : (steps : List Step) (i : ℕ) → i < length steps → IsAt steps i (step_at steps i)
is_there steps i within = slice_get-get_or steps i (record { edge = 0; before = None; depth = 0 }) within

pub back-smaller : goal.back-smaller
back-smaller c =
    let steps : List Step = c.args.steps.now in
    let i : ℕ = c.in-Some.place in
    let s : Step = step_at steps i in
    let within : i < length steps = subst (λ o. IfSome o (λ j. j < length steps)) c.in-Some.is c.back.invariant.within in
    let after : IsAfter steps i s.before s.depth = c.requires.linked i s (is_there steps i within) in
    omega (arith, before_less steps i s.before s.depth after, ap (λ o. unwrap_or (option_map (λ n. n + 1) o) 0) c.in-Some.is)

pub back-preserved : goal.back-preserved
back-preserved c =
    let steps : List Step = c.args.steps.now in
    let i : ℕ = c.in-Some.place in
    let s : Step = step_at steps i in
    let within : i < length steps = subst (λ o. IfSome o (λ j. j < length steps)) c.in-Some.is c.back.invariant.within in
    let at : IsAt steps i s = is_there steps i within in
    let after : IsAfter steps i s.before s.depth = c.requires.linked i s at in
    record {
      within = before_within steps i s.before s.depth after;
      way = λ edges start a b led leads ends. subst (λ ps. IsWay edges a b (reverse ps)) (sym c.in_ok-push.ensures.items)
          (way_back edges start steps i s b c.back.way.items at led (λ n to. c.back.invariant.way edges start n b led
          (subst (λ o. LeadsTo edges start steps o n) (sym c.in-Some.is) to) ends) a leads);
      count = omega (
        arith,
        ap length c.in_ok-push.ensures.items ∙ length-append c.back.way.items _,
        depth_more steps i s at after,
        ap (depth_at steps) c.in-Some.is,
        c.back.invariant.count,
      );
    }

pub returns : goal.returns
returns c =
    let steps : List Step = c.args.steps.now in
    record {
      way = λ edges start node led ends. subst (λ ps. IsWay edges start node ps) (sym c.reverse.ensures.items)
          (c.back.invariant.way edges start start node led
          (subst (λ o. LeadsTo edges start steps o start) (sym c.in_default.is) refl) ends);
      edges = omega (
        arith,
        ap length c.reverse.ensures.items ∙ length-reverse c.back.way.items,
        ap (depth_at steps) c.in_default.is,
        c.back.invariant.count,
      );
    }
