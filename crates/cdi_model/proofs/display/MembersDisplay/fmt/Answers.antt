use Rattle.cdi_model.proofs.Common.{ap, ◌∙◌, [], ◌++◌, ◌∷◌, refl, rules, signed_decimal, equals_sign}
use Rattle.std.proofs.Output.{has_written_append, has_written_of_eq}
use Rattle.cdi_model.proofs.UseTextLemmas.{pairs_behind, pairs_behind_more, pairs_behind_done}
use Rattle.cdi_model.proofs.display.MembersDisplay.fmt.Goals as goal

pub loop-name-init : goal.loop-name-init
loop-name-init g c = (
  λ plain. (
    [],
    ap (pairs_behind [])
        (c.into_iter-name-iterator.ensures.into_iter_gives ∙ c.iter-name-items.ensures.value),
    search rules,
  ),
  search rules,
)

pub loop-name-preserved : goal.loop-name-preserved
loop-name-preserved g c = (
  λ plain.
      let so_far = c.loop-name.invariant.0 plain in (
        so_far.0 ++ (c.loop-name.separator.now ++ (c.in-Some.name.now ++ equals_sign ∷ signed_decimal c.in-Some.value.now)),
        pairs_behind_more so_far.0 c.loop-name.separator.now c.in-Some.name.now _ c.in-Some.value.now _ _ c.in-Some.ensures.steps so_far.1,
        has_written_append _ _ _ _ _ _ so_far.2 (c.in_ok-write.ensures.writes so_far.2.plain refl),
      ),
  search rules,
)

pub returns-clause-writes : goal.returns-clause-writes
returns-clause-writes g c = λ plain _.
    let so_far = c.loop-name.invariant.0 plain in
    has_written_of_eq _ _ _ _ _ (pairs_behind_done so_far.0 _ _ _ c.in-None.ensures.steps.0 so_far.1) so_far.2
