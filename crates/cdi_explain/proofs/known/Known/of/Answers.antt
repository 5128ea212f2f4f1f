use Rattle.std.proofs.Common.{◌≡◌, length, count_by, subst, sym, ap, ◌∙◌, arith}
use Rattle.std.specs.Str.{chars}
use Rattle.cdi_explain.proofs.FarLemmas.{counted-more}
use Rattle.cdi_explain.specs.Counts.{is_of_class, AreCounted}
use Rattle.cdi_explain.proofs.known.Known.of.Goals as goal

pub loop-class-preserved : goal.loop-class-preserved
loop-class-preserved c =
    let counts = c.loop-class.counts in
    let is : length counts.items ≡ c.loop-class.class = omega (arith, c.loop-class.invariant.length, counts.ok.0) in
    record {
      counted = subst (AreCounted c.args.name) (sym c.in_ok-push.ensures.items)
          (counted-more c.args.name counts.items c.count_of.result c.loop-class.invariant.counted
          (c.count_of.ensures ∙ ap (λ k. count_by (is_of_class k) (chars c.args.name)) (sym is)));
      length = omega (arith, c.in_ok-push.ensures.len, c.loop-class.invariant.length);
    }
