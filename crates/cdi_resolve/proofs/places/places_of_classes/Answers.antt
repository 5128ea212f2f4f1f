use Rattle.std.proofs.Common.{◌≡◌, None, ap, sym, ◌∙◌, rules}
use Rattle.std.specs.{List.position_from, Option.option_or}
use Rattle.std.proofs.lemmas.Iterator.Adapters.{position_from-zero}
use Rattle.indexmap.specs.IndexMap.{get}
use Rattle.cdi_effective.specs.Records.{is_of_class}
use Rattle.cdi_resolve.proofs.PlaceLemmas.{class-next}
use Rattle.cdi_resolve.specs.Places.{same_name}
use Rattle.cdi_resolve.proofs.places.places_of_classes.Goals as goal

pub loop-place-init : goal.loop-place-init
loop-place-init c class =
    let beans = c.args.beans.now in
    let none : get same_name c.new-classes.result class ≡ None = search rules in
    ap (λ o. option_or o (position_from (is_of_class class) 0 beans)) none ∙ sym (position_from-zero (is_of_class class) beans)

pub loop-place-preserved : goal.loop-place-preserved
loop-place-preserved c class =
    class-next c.args.beans.now c.loop-place.place c.index-beans-place.result class (get same_name c.loop-place.classes class) _
    c.loop-place-test.true c.index-beans-place.is (c.in_ok-add_class.ensures class) (c.loop-place.invariant class)
